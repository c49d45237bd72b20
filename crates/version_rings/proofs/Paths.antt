-- Paths of nodes that are linked to older ones.
use Rattle.std.proofs.Common.{◌≡◌, ◌<◌, ◌≤◌, ℕ, zero, suc, List, ◌∷◌, length, take}
use Rattle.std.proofs.Common.{refl, sym, ap, ap₂, ◌∙◌, subst, arith}
use Rattle.version_rings.specs.Versions.{Version}
use Rattle.version_rings.specs.Inside.Nodes.{older_at, newer_at, version_at, versions_from}
use Rattle.version_rings.specs.Inside.Nodes.{IsChainWithin}
use Rattle.version_rings.specs.Inside.Sound.{Marks, Path, step_older, IsLinked}
use Rattle.version_rings.specs.declared.node.Node.{Node}

-- Nodes that stay as they were

-- all that a path says of a node holds of it in other nodes, by another table
pub record Kept (Q : ℕ → ℕ → Type 0) (old new : List Node) (m n : Marks) (w i from : ℕ) : Type 0
  where
    pub within : i < length new
    pub owner : n.owner i ≡ w
    pub time : n.time i ≡ m.time i
    pub here : Q i from
    pub older : older_at new i ≡ older_at old i
    pub version : version_at new i ≡ version_at old i

-- so it is with each node of this owner that came before a time
abbrev pub Keeps : (ℕ → ℕ → Type 0) → (ℕ → ℕ → Type 0) → List Node → List Node → Marks → Marks
    → ℕ → ℕ → Type 0
Keeps P Q old new m n w top = (i from : ℕ) → i < length old → m.owner i ≡ w → m.time i < top
    → P i from → Kept Q old new m n w i from

pub path-kept : (P Q : ℕ → ℕ → Type 0) (old new : List Node) (m n : Marks) (w top : ℕ)
    → Keeps P Q old new m n w top → (k i before from : ℕ) → before ≤ top
    → Path P old m w k i before from → Path Q new n w k i before from
path-kept P Q old new m n w top keeps zero i before from le path = tt
path-kept P Q old new m n w top keeps (suc k) i before from le path =
    let kept = keeps i from path.0 path.1 (omega (arith, path.2)) path.3 in (
      kept.within,
      kept.owner,
      subst (λ t. t < before) (sym kept.time) path.2,
      kept.here,
      subst (λ o. Path Q new n w k o (n.time i) i) (sym kept.older)
          (subst (λ t. Path Q new n w k (older_at old i) t i) (sym kept.time)
          (path-kept P Q old new m n w top keeps k (older_at old i) (m.time i) i
          (omega (arith, path.2)) path.4)),
    )

pub versions-kept : (P Q : ℕ → ℕ → Type 0) (old new : List Node) (m n : Marks) (w top : ℕ)
    → Keeps P Q old new m n w top → (k i before from : ℕ) → before ≤ top
    → Path P old m w k i before from → versions_from new k i ≡ versions_from old k i
versions-kept P Q old new m n w top keeps zero i before from le path = refl
versions-kept P Q old new m n w top keeps (suc k) i before from le path =
    let kept = keeps i from path.0 path.1 (omega (arith, path.2)) path.3 in
    let behind = versions-kept P Q old new m n w top keeps k (older_at old i) (m.time i) i
    (omega (arith, path.2)) path.4 in
    ap₂ (λ (v : Version) (vs : List Version). v ∷ vs) kept.version
    (ap (versions_from new k) kept.older ∙ behind)

pub step-kept : (P Q : ℕ → ℕ → Type 0) (old new : List Node) (m n : Marks) (w top : ℕ)
    → Keeps P Q old new m n w top → (k i before from : ℕ) → before ≤ top
    → Path P old m w k i before from → step_older new k i ≡ step_older old k i
step-kept P Q old new m n w top keeps zero i before from le path = refl
step-kept P Q old new m n w top keeps (suc k) i before from le path =
    let kept = keeps i from path.0 path.1 (omega (arith, path.2)) path.3 in
    ap (step_older new k) kept.older
    ∙ step-kept P Q old new m n w top keeps k (older_at old i) (m.time i) i
    (omega (arith, path.2)) path.4

-- One path

-- it may begin elsewhere and later
pub restart : (P : ℕ → ℕ → Type 0) (ns : List Node) (m : Marks) (w k i before from later other : ℕ)
    → before ≤ later → (P i from → P i other)
    → Path P ns m w k i before from → Path P ns m w k i later other
restart P ns m w zero i before from later other le here path = tt
restart P ns m w (suc k) i before from later other le here path =
    (path.0, path.1, omega (arith, path.2), here path.3, path.4)

-- it may end before its last node
pub shorter : (P : ℕ → ℕ → Type 0) (ns : List Node) (m : Marks) (w k i before from : ℕ)
    → Path P ns m w (suc k) i before from → Path P ns m w k i before from
shorter P ns m w zero i before from path = tt
shorter P ns m w (suc k) i before from path = (
  path.0,
  path.1,
  path.2,
  path.3,
  shorter P ns m w k (older_at ns i) (m.time i) i path.4,
)

pub path-within : (P : ℕ → ℕ → Type 0) (ns : List Node) (m : Marks) (w k i before from : ℕ)
    → Path P ns m w k i before from → IsChainWithin ns k i
path-within P ns m w zero i before from path = tt
path-within P ns m w (suc k) i before from path =
    (path.0, path-within P ns m w k (older_at ns i) (m.time i) i path.4)

-- the last node of a path
pub record Last (P : ℕ → ℕ → Type 0) (ns : List Node) (m : Marks) (w before i : ℕ) : Type 0 where
  pub within : i < length ns
  pub owner : m.owner i ≡ w
  pub time : m.time i < before
  pub from : ℕ
  pub here : P i from

pub last-of : (P : ℕ → ℕ → Type 0) (ns : List Node) (m : Marks) (w k i before from : ℕ)
    → Path P ns m w (suc k) i before from → Last P ns m w before (step_older ns k i)
last-of P ns m w zero i before from path = record {
  within = path.0;
  owner = path.1;
  time = path.2;
  from = from;
  here = path.3;
}
last-of P ns m w (suc k) i before from path =
    let last = last-of P ns m w k (older_at ns i) (m.time i) i path.4 in
    record {
      within = last.within;
      owner = last.owner;
      time = omega (arith, last.time, path.2);
      from = last.from;
      here = last.here;
    }

-- all but the last came later than the last
abbrev pub And : (ℕ → ℕ → Type 0) → (ℕ → Type 0) → ℕ → ℕ → Type 0
And P A i from = P i from × A i

pub before-last : (P : ℕ → ℕ → Type 0) (ns : List Node) (m : Marks) (w k i before from : ℕ)
    → Path P ns m w (suc k) i before from
    → Path (And P (λ j. m.time (step_older ns k i) < m.time j)) ns m w k i before from
before-last P ns m w zero i before from path = tt
before-last P ns m w (suc k) i before from path = (
  path.0,
  path.1,
  path.2,
  (path.3, (last-of P ns m w k (older_at ns i) (m.time i) i path.4).time),
  before-last P ns m w k (older_at ns i) (m.time i) i path.4,
)

-- the last links to the one before it
pub newer-last : (ns : List Node) (m : Marks) (w k i before from : ℕ)
    → Path (IsLinked ns) ns m w (suc (suc k)) i before from
    → newer_at ns (step_older ns (suc k) i) ≡ step_older ns k i
newer-last ns m w zero i before from path = path.4.3
newer-last ns m w (suc k) i before from path =
    newer-last ns m w k (older_at ns i) (m.time i) i path.4

pub step-last : (ns : List Node) (k i : ℕ)
    → older_at ns (step_older ns k i) ≡ step_older ns (suc k) i
step-last ns zero i = refl
step-last ns (suc k) i = step-last ns k (older_at ns i)

pub versions-length : (ns : List Node) (k i : ℕ) → length (versions_from ns k i) ≡ k
versions-length ns zero i = refl
versions-length ns (suc k) i = ap suc (versions-length ns k (older_at ns i))

pub versions-shorter : (ns : List Node) (k i : ℕ)
    → take k (versions_from ns (suc k) i) ≡ versions_from ns k i
versions-shorter ns zero i = refl
versions-shorter ns (suc k) i =
    ap (λ vs. version_at ns i ∷ vs) (versions-shorter ns k (older_at ns i))
