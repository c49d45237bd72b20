-- The server of many tenants. The claim of `pipe` speaks of one tenant, and needs none of this.
pub mod Ready
pub mod World
pub mod Turns
pub mod Laws
