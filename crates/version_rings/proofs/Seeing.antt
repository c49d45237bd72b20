-- What is seen of a ring, from the invariant of all.
use Rattle.std.proofs.Common.{◌≡◌, ◌<◌, ◌+◌, ℕ, zero, suc, List, [], ◌∷◌, length, map}
use Rattle.std.proofs.Common.{Option, None, Some, refl, sym, ap, ap₂, ◌∙◌, subst, arith}
use Rattle.std.proofs.Math.ListN.{get_or-map}
use Rattle.std.specs.Prelude.{true}
use Rattle.version_rings.specs.Versions.{Version, is_kept}
use Rattle.version_rings.specs.Rings.{Rings, versions, all_kept}
use Rattle.version_rings.specs.Inside.Nodes.{Space, older_at, newer_at, version_at, versions_from}
use Rattle.version_rings.specs.Inside.Nodes.{ring_versions}
use Rattle.version_rings.specs.Inside.Nodes.{IsChainWithin}
use Rattle.version_rings.specs.Inside.Seen.{seen_rings}
use Rattle.version_rings.specs.Inside.Sound.{Path, IsSound, IsLinked, step_older}
use Rattle.version_rings.specs.Inside.Sound.{IsEmptied, total}
use Rattle.version_rings.specs.declared.node.Node.{Node}
use Rattle.version_rings.specs.declared.node.Ring.{Ring}
use Rattle.version_rings.specs.declared.node.RingId.{RingId}
use Rattle.version_rings.proofs.Paths.{path-within, versions-length, last-of}
use Rattle.version_rings.proofs.Totals.{ring_at}

-- the versions under an id are those of the ring at its place
pub seen : (room : ℕ) (s : Space) (rings : List (Option Ring)) (id : RingId)
    → versions (seen_rings room s rings) id ≡ ring_versions s.nodes (ring_at rings id.place)
seen room s rings id = get_or-map (ring_versions s.nodes) rings id.place None

pub seen-as : (room : ℕ) (s : Space) (rings : List (Option Ring)) (now : Rings) (id : RingId)
    → seen_rings room s rings ≡ now → versions now id ≡ ring_versions s.nodes
    (ring_at rings id.place)
seen-as room s rings now id is = ap (λ (r : Rings). versions r id) (sym is) ∙ seen room s rings id

-- all of a ring can be read
pub all-within : (s : Space) (rings : List (Option Ring)) (id : ℕ) (ring : Ring)
    → IsSound s rings → ring_at rings id ≡ Some ring → IsChainWithin s.nodes ring.count ring.newest
all-within s rings id ring sound there =
    let c = sound.circles id ring there in
    subst (λ (n : ℕ). IsChainWithin s.nodes n ring.newest) (sym c.many)
    (path-within (IsLinked s.nodes) s.nodes sound.marks (suc id) (suc c.behind) ring.newest
    sound.now (step_older s.nodes c.behind ring.newest) c.path)

pub newest-within : (s : Space) (rings : List (Option Ring)) (id : ℕ) (ring : Ring)
    → IsSound s rings → ring_at rings id ≡ Some ring → ring.newest < length s.nodes
newest-within s rings id ring sound there = (sound.circles id ring there).path.0

pub oldest-within : (s : Space) (rings : List (Option Ring)) (id : ℕ) (ring : Ring)
    → IsSound s rings → ring_at rings id ≡ Some ring
    → newer_at s.nodes ring.newest < length s.nodes
oldest-within s rings id ring sound there =
    let c = sound.circles id ring there in
    subst (λ (x : ℕ). x < length s.nodes) (sym c.path.3)
    (last-of (IsLinked s.nodes) s.nodes sound.marks (suc id) c.behind ring.newest sound.now
    (step_older s.nodes c.behind ring.newest) c.path).within

-- the newest of the versions
pub newest-first : (s : Space) (rings : List (Option Ring)) (id : ℕ) (ring : Ring)
    → IsSound s rings → ring_at rings id ≡ Some ring
    → (rest : List Version) × (versions_from s.nodes ring.count ring.newest
    ≡ version_at s.nodes ring.newest ∷ rest)
newest-first s rings id ring sound there =
    let c = sound.circles id ring there in (
      versions_from s.nodes c.behind (older_at s.nodes ring.newest),
      ap (λ (n : ℕ). versions_from s.nodes n ring.newest) c.many,
    )

pub as-many-versions : (s : Space) (ring : Ring)
    → ring.count ≡ length (versions_from s.nodes ring.count ring.newest)
as-many-versions s ring = sym (versions-length s.nodes ring.count ring.newest)

pub kept-ring : (s : Space) (rings : List (Option Ring)) (id : ℕ) (ring : Ring)
    → IsSound s rings → ring_at rings id ≡ Some ring
    → is_kept (versions_from s.nodes ring.count ring.newest) ≡ true
kept-ring s rings id ring sound there =
    ap (λ (n : ℕ). is_kept (versions_from s.nodes n ring.newest))
    (sound.circles id ring there).many

pub first-within : (s : Space) (rings : List (Option Ring)) → IsSound s rings → 0 < s.free
    → s.first < length s.nodes
first-within s rings sound some = of s.free some sound.chain
  where
    of : (n : ℕ) → 0 < n
        → Path (IsEmptied s.nodes) s.nodes sound.marks 0 n
        s.first sound.now s.first
        → s.first < length s.nodes
    of zero less path = absurd (omega arith)
    of (suc n) less path = path.0

-- nodes in rings are versions that are kept
pub versions-counted : (ns : List Node) (rings : List (Option Ring))
    → total rings ≡ all_kept (map (ring_versions ns) rings)
versions-counted ns [] = refl
versions-counted ns (None ∷ rings) = ap (λ n. 0 + n) (versions-counted ns rings)
versions-counted ns (Some ring ∷ rings) =
    ap₂ (λ (n m : ℕ). n + m) (sym (versions-length ns ring.count ring.newest))
    (versions-counted ns rings)
