-- What each call makes of the rings, as callers see them.
use Rattle.std.proofs.Common.{◌≡◌, ◌≤◌, ◌≢◌, ◌<◌, ◌+◌, ◌-◌, ℕ, zero, suc, List, [], ◌∷◌, length}
use Rattle.std.proofs.Common.{Option, None, Some, sym, ap, ◌∙◌, subst, arith}
use Rattle.std.specs.Prelude.{is_some}
use Rattle.std.proofs.lemmas.List.{get_or-set_same, get_or-set_other, length-set}
use Rattle.std.specs.Prelude.{slice_set, true, false, Bool, ◌==◌, if◌then◌else◌, ◌&&◌}
use Rattle.value_data.specs.declared.value.Value.{Value}
use Rattle.value_data.specs.Inside.View.{view}
use Rattle.version_rings.specs.Versions.{Version, version, pushed, is_kept}
use Rattle.version_rings.specs.Rings.{Rings, versions, SameOtherRings, SameNodes, TakesNode, NodesAfter}
use Rattle.version_rings.specs.Inside.Nodes.{Space, newer_at, ring_versions}
use Rattle.version_rings.specs.Inside.Nodes.{vacant, filled, with_newest, with_content, with_newer}
use Rattle.version_rings.specs.Inside.Nodes.{node_at, all_emptied}
use Rattle.version_rings.specs.Inside.Seen.{seen_rings}
use Rattle.version_rings.specs.Inside.Sound.{IsSound, nodes_in}
use Rattle.version_rings.specs.declared.node.Node.{Node}
use Rattle.version_rings.specs.declared.node.Ring.{Ring}
use Rattle.version_rings.specs.declared.node.RingId.{RingId}
use Rattle.version_rings.proofs.Totals.{ring_at, one-of-total}
use Rattle.version_rings.proofs.Filling.{fills}
use Rattle.version_rings.proofs.Becoming.{Becomes}
use Rattle.version_rings.proofs.Turning.{overwritten}
use Rattle.version_rings.proofs.Adding.{ring-made, ring-grown, takes-at}
use Rattle.version_rings.proofs.Freeing.{Freed, freed, loosened}
use Rattle.version_rings.proofs.Seeing.{seen, seen-as, kept-ring}

-- What is seen of a change

pub seen-here : (after : ℕ) (s t : Space) (rings later : List (Option Ring)) (id : RingId)
    (vs : List Version)
    → Becomes s t rings later id.place vs → versions (seen_rings after t later) id ≡ vs
seen-here after s t rings later id vs b = seen after t later id ∙ b.here

pub seen-others : (room after : ℕ) (s t : Space) (rings later : List (Option Ring)) (now : Rings)
    (id : RingId)
    (vs : List Version) → seen_rings room s rings ≡ now → Becomes s t rings later id.place vs
    → SameOtherRings id now (seen_rings after t later)
seen-others room after s t rings later now id vs is b other differ =
    seen after t later other
    ∙ b.others other.place (λ e. differ (ap (λ (n : ℕ). record { place = n }) e))
    ∙ sym (seen-as room s rings now other is)

pub seen-some : (room : ℕ) (s : Space) (rings : List (Option Ring)) (now : Rings) (id : RingId)
    (ring : Ring)
    → seen_rings room s rings ≡ now → ring_at rings id.place ≡ Some ring
    → versions now id ≡ ring_versions s.nodes (Some ring)
seen-some room s rings now id ring is there =
    seen-as room s rings now id is ∙ ap (ring_versions s.nodes) there

pub seen-none : (room : ℕ) (s : Space) (rings : List (Option Ring)) (now : Rings) (id : RingId)
    → seen_rings room s rings ≡ now → ring_at rings id.place ≡ None → versions now id ≡ []
seen-none room s rings now id is there = seen-as room s rings now id is ∙ ap (ring_versions s.nodes)
    there

pub seen-kept : (room : ℕ) (s : Space) (rings : List (Option Ring)) (now : Rings) (id : RingId)
    (ring : Ring)
    → IsSound s rings → seen_rings room s rings ≡ now → ring_at rings id.place ≡ Some ring
    → is_kept (versions now id) ≡ true
seen-kept room s rings now id ring sound is there =
    ap is_kept (seen-some room s rings now id ring is there)
    ∙ kept-ring s rings id.place ring sound there

pub not-absent : (room : ℕ) (s : Space) (rings : List (Option Ring)) (now : Rings) (id : RingId)
    (ring : Ring)
    → IsSound s rings → seen_rings room s rings ≡ now → ring_at rings id.place ≡ Some ring
    → versions now id ≡ [] → ⊥
not-absent room s rings now id ring sound is there none =
    let wrong : true ≡ false =
    sym (seen-kept room s rings now id ring sound is there) ∙ ap is_kept none in
    cc wrong

-- The calls

pub in-list : (rings : List (Option Ring)) (id : ℕ) (ring : Ring) → ring_at rings id ≡ Some ring
    → id < length rings
in-list [] id ring there = absurd cc
in-list (x ∷ xs) zero ring there = omega arith
in-list (x ∷ xs) (suc id) ring there = omega (arith, in-list xs id ring there)

pub made : (s t : Space) (rings mid later : List (Option Ring)) (id place : ℕ) (content : Value)
    → IsSound s rings → mid ≡ rings → place ≡ vacant s
    → t ≡ filled s (record { stamp = 0; content = content; older = place; newer = place })
    → ring_at mid id ≡ None → ring_at later id ≡ Some (record { newest = place; count = 1 })
    → ((k : ℕ) → k ≢ id → ring_at later k ≡ ring_at mid k)
    → Becomes s t rings later id (version 0 (view content) ∷ [])
made s t rings mid later id place content sound is at t-is none some same =
    subst (λ (x : Space). Becomes s x rings later id (version 0 (view content) ∷ []))
    (sym (t-is ∙ ap (λ (p : ℕ). filled s (record {
      stamp = 0;
      content = content;
      older = p;
      newer = p;
    })) at))
    (ring-made s rings later id 0 content sound
    (ap (λ (rs : List (Option Ring)). ring_at rs id) (sym is) ∙ none)
    (some ∙ ap (λ (p : ℕ). Some (record { newest = p; count = 1 })) at)
    (λ k differ. same k differ ∙ ap (λ (rs : List (Option Ring)). ring_at rs k) is))

pub grew : (s t : Space) (rings later : List (Option Ring)) (id place stamp : ℕ) (content : Value)
    (ring : Ring) → IsSound s rings → ring_at rings id ≡ Some ring → place ≡ vacant s
    → t ≡ with_newest ring.newest stamp content s
    → later ≡ slice_set rings id (Some (record { newest = place; count = ring.count + 1 }))
    → Becomes s t rings later id
    (pushed true (version stamp (view content)) (ring_versions s.nodes (Some ring)))
grew s t rings later id place stamp content ring sound there at t-is set =
    let new : Option Ring = Some (record { newest = place; count = ring.count + 1 }) in
    let vs = pushed true (version stamp (view content)) (ring_versions s.nodes (Some ring)) in
    subst (λ (x : Space). Becomes s x rings later id vs) (sym t-is)
    (ring-grown s rings later id stamp content ring sound there
    (ap (λ (rs : List (Option Ring)). ring_at rs id) set
    ∙ get_or-set_same rings id new None (in-list rings id ring there)
    ∙ ap (λ (p : ℕ). Some (record { newest = p; count = ring.count + 1 })) at)
    (λ k differ. ap (λ (rs : List (Option Ring)). ring_at rs k) set
    ∙ get_or-set_other rings id k new None differ))

pub overwrote : (s t : Space) (rings later : List (Option Ring)) (id place stamp : ℕ)
    (content : Value) (ring : Ring) → IsSound s rings → ring_at rings id ≡ Some ring
    → place ≡ newer_at s.nodes ring.newest → t ≡ with_content place stamp content s
    → later ≡ slice_set rings id (Some (record { newest = place; count = ring.count }))
    → Becomes s t rings later id
    (pushed false (version stamp (view content)) (ring_versions s.nodes (Some ring)))
overwrote s t rings later id place stamp content ring sound there at t-is set =
    let new : Option Ring = Some (record { newest = place; count = ring.count }) in
    let vs = pushed false (version stamp (view content)) (ring_versions s.nodes (Some ring)) in
    subst (λ (x : Space). Becomes s x rings later id vs) (sym t-is)
    (overwritten s rings later id stamp content ring sound there
    (λ k differ. ap (λ (rs : List (Option Ring)). ring_at rs k) set
    ∙ get_or-set_other rings id k new None differ) place at
    (ap (λ (rs : List (Option Ring)). ring_at rs id) set
    ∙ get_or-set_same rings id new None (in-list rings id ring there)))

pub let-go : (s : Space) (rings later : List (Option Ring)) (id : ℕ) (ring : Ring)
    → IsSound s rings → ring_at rings id ≡ Some ring → ring_at later id ≡ None
    → ((k : ℕ) → k ≢ id → ring_at later k ≡ ring_at rings k)
    → Freed s (all_emptied ring.count ring.newest s) later ring.count ring.newest
let-go s rings later id ring sound there gone same =
    freed later (suc id) (λ e. cc) ring.count ring.newest s
    (loosened s rings later id ring sound there gone same)

pub gone-becomes : (s t : Space) (rings later : List (Option Ring)) (id : ℕ) (ring : Ring)
    → IsSound s rings → ring_at rings id ≡ Some ring → ring_at later id ≡ None
    → ((k : ℕ) → k ≢ id → ring_at later k ≡ ring_at rings k)
    → t ≡ all_emptied ring.count ring.newest s → Becomes s t rings later id []
gone-becomes s t rings later id ring sound there gone same t-is =
    let f = let-go s rings later id ring sound there gone same in
    let after = all_emptied ring.count ring.newest s in
    let b : Becomes s after rings later id [] = record {
      sound = f.sound;
      here = ap (ring_versions after.nodes) gone;
      others = λ k differ. f.same k ∙ ap (ring_versions s.nodes) (same k differ);
    } in
    subst (λ (x : Space). Becomes s x rings later id []) (sym t-is) b

-- The nodes

pub takes-node : (room after : ℕ) (s t : Space) (rings later : List (Option Ring)) (now : Rings)
    (newest stamp : ℕ)
    (content : Value) → seen_rings room s rings ≡ now → t ≡ with_newest newest stamp content s
    → room ≤ after + 1 → TakesNode now (seen_rings after t later)
takes-node room after s t rings later now newest stamp content is t-is less =
    let oldest = newer_at s.nodes newest in
    let node : Node = record { stamp = stamp; content = content; older = newest; newer = oldest } in
    let mid = (filled s node).nodes in
    let two = with_newer newest (vacant s) mid in
    let took = takes-at s.free s node in
    record {
      slots =
          ap (λ (x : Space). length x.nodes) t-is
          ∙ length-set two oldest (record (node_at two oldest) { older = vacant s })
          ∙ length-set mid newest (record (node_at mid newest) { newer = vacant s })
          ∙ took.0
          ∙ ap (λ (r : Rings). if r.free == 0 then r.slots + 1 else r.slots) is;
      free =
          ap (λ (x : Space). x.free) t-is ∙ took.1 ∙ ap (λ (r : Rings). r.free - 1) is;
      room = omega (arith, less, ap (λ (r : Rings). r.room) is);
    }

-- a ring that is to grow has fewer versions than there are nodes then
pub fewer-than-nodes : (s t : Space) (rings : List (Option Ring)) (id : ℕ) (ring : Ring)
    (newest stamp : ℕ) (content : Value) → IsSound s rings → ring_at rings id ≡ Some ring
    → t ≡ with_newest newest stamp content s → ring.count < length t.nodes
fewer-than-nodes s t rings id ring newest stamp content sound there t-is =
    let oldest = newer_at s.nodes newest in
    let node : Node = record { stamp = stamp; content = content; older = newest; newer = oldest } in
    let mid = (filled s node).nodes in
    let two = with_newer newest (vacant s) mid in
    let many : length t.nodes ≡ length mid =
    ap (λ (x : Space). length x.nodes) t-is
    ∙ length-set two oldest (record (node_at two oldest) { older = vacant s })
    ∙ length-set mid newest (record (node_at mid newest) { newer = vacant s }) in
    omega (
      arith,
      many,
      (fills s node sound.marks sound.now sound.chain).counted,
      sound.counted,
      one-of-total rings id,
      ap nodes_in there,
    )

pub same-nodes : (room after : ℕ) (s t : Space) (rings later : List (Option Ring)) (now : Rings)
    (place stamp : ℕ)
    (content : Value) → seen_rings room s rings ≡ now → t ≡ with_content place stamp content s
    → after ≡ room → SameNodes now (seen_rings after t later)
same-nodes room after s t rings later now place stamp content is t-is same = record {
  slots =
      ap (λ (x : Space). length x.nodes) t-is
      ∙ length-set s.nodes place (record (node_at s.nodes place) {
        stamp = stamp;
        content = content;
      })
      ∙ ap (λ (r : Rings). r.slots) is;
  free = ap (λ (x : Space). x.free) t-is ∙ ap (λ (r : Rings). r.free) is;
  room = same ∙ ap (λ (r : Rings). r.room) is;
}

pub nodes-after : (grow kept : Bool) (old new : Rings) → grow ≡ true → kept ≡ true
    → TakesNode old new → NodesAfter (grow && kept) old new
nodes-after true true old new g k t = t
nodes-after true false old new g k t = cc k
nodes-after false true old new g k t = cc g
nodes-after false false old new g k t = cc g

pub live-as : (room : ℕ) (s : Space) (rings : List (Option Ring)) (now : Rings) (id : RingId)
    (found : Option Ring)
    (b : Bool) → IsSound s rings → seen_rings room s rings ≡ now → ring_at rings id.place ≡ found
    → b ≡ is_some found → b ≡ is_kept (versions now id)
live-as room s rings now id None b sound is e known =
    known ∙ sym (ap is_kept (seen-none room s rings now id is e))
live-as room s rings now id (Some ring) b sound is e known =
    known ∙ sym (seen-kept room s rings now id ring sound is e)
