-- Nodes that are kept by their parts: what a write to the parts makes of the nodes.
use Rattle.std.proofs.Common.{◌≡◌, ◌≢◌, ◌<◌, ◌+◌, ℕ, zero, suc, List, [], ◌∷◌, ◌++◌, length}
use Rattle.std.proofs.Common.{refl, sym, ap, ap₂, ◌∙◌, arith, inl, inr, get_or}
use Rattle.std.specs.Prelude.{slice_set, slice_index_or, drop, ◌*◌, ◌/◌, ◌%◌, ◌^◌}
use Rattle.std.proofs.lemmas.Bool.{cases_eq}
use Rattle.std.proofs.lemmas.List.{ext_get_or, length-set, length_push, get_or-set_same}
use Rattle.std.proofs.lemmas.List.{get_or-set_other, get_or_push, get_or_append_left}
use Rattle.value_data.specs.declared.value.Value.{Value}
use Rattle.std.proofs.lemmas.List.{get_or_default}
use Rattle.std.proofs.lemmas.Nat.{shr_split}
use Rattle.version_rings.specs.Inside.Nodes.{empty_node, node_at, with_older, with_newer, new_content}
use Rattle.version_rings.specs.Inside.Parts.{node_of, nodes_of, content_at, upper_at}
use Rattle.version_rings.specs.declared.node.Node.{Node}
use Rattle.version_rings.specs.declared.node.Joint.{Joint}

abbrev pub joint_at : List Joint → ℕ → Joint
joint_at js i = slice_index_or js i (record { lower = 0; older = 0; newer = 0 })

pub nodes-length : (js : List Joint) (cs : List Value) (us : List ℕ)
    → length (nodes_of js cs us) ≡ length js
nodes-length [] cs us = refl
nodes-length (j ∷ js) cs us = ap suc (nodes-length js (drop 1 cs) (drop 1 us))

behind : {X : Type 0} (xs : List X) (i : ℕ) (d : X) → get_or (drop 1 xs) i d ≡ get_or xs (suc i) d
behind [] i d = refl
behind (x ∷ xs) i d = refl

pub node-parts : (js : List Joint) (cs : List Value) (us : List ℕ) (i : ℕ) → i < length js
    → node_at (nodes_of js cs us) i ≡ node_of (joint_at js i) (content_at cs i) (upper_at us i)
node-parts [] cs us i h = absurd (omega (arith, h))
node-parts (j ∷ js) cs us zero h = refl
node-parts (j ∷ js) cs us (suc i) h =
    node-parts js (drop 1 cs) (drop 1 us) i (omega (arith, h))
    ∙ ap₂ (node_of (joint_at js i)) (behind cs i Value.Nil) (behind us i 0)

-- one node is written
pub parts-set : (js after : List Joint) (cs cs2 : List Value) (us us2 : List ℕ) (i : ℕ)
    (node : Node) → i < length js → length after ≡ length js
    → node_of (joint_at after i) (content_at cs2 i) (upper_at us2 i) ≡ node
    → ((n : ℕ) → n ≢ i → joint_at after n ≡ joint_at js n)
    → ((n : ℕ) → n ≢ i → content_at cs2 n ≡ content_at cs n)
    → ((n : ℕ) → n ≢ i → upper_at us2 n ≡ upper_at us n)
    → nodes_of after cs2 us2 ≡ slice_set (nodes_of js cs us) i node
parts-set js after cs cs2 us us2 i node h many is joints contents uppers =
    let old = nodes_of js cs us in
    let old-many = nodes-length js cs us in
    let new-many = nodes-length after cs2 us2 in
    ext_get_or (empty_node 0 0) (nodes_of after cs2 us2) (slice_set old i node)
    (new-many ∙ many ∙ sym (length-set old i node ∙ old-many))
    (λ k within.
    let there : k < length after = omega (arith, within, new-many) in
    node-parts after cs2 us2 k there ∙ elim (cases_eq k i) [
      | inl e ↦
          ap (λ (n : ℕ). node_of (joint_at after n) (content_at cs2 n) (upper_at us2 n)) e
          ∙ is
          ∙ sym (get_or-set_same old i node (empty_node 0 0) (omega (arith, h, old-many)))
          ∙ ap (λ (n : ℕ). node_at (slice_set old i node) n) (sym e)
      | inr differ ↦
          ap (λ (j : Joint). node_of j (content_at cs2 k) (upper_at us2 k)) (joints k differ)
          ∙ ap₂ (node_of (joint_at js k)) (contents k differ) (uppers k differ)
          ∙ sym (node-parts js cs us k (omega (arith, there, many)))
          ∙ sym (get_or-set_other old i k node (empty_node 0 0) differ)
    ])

-- one node is put behind all
pub parts-push : (js after : List Joint) (cs cs2 : List Value) (us us2 : List ℕ) (j : Joint)
    (content : Value) (node : Node) → after ≡ js ++ j ∷ [] → cs2 ≡ cs ++ content ∷ []
    → length cs ≡ length js → node_of j content (upper_at us2 (length js)) ≡ node
    → ((n : ℕ) → n ≢ length js → upper_at us2 n ≡ upper_at us n)
    → nodes_of after cs2 us2 ≡ nodes_of js cs us ++ node ∷ []
parts-push js after cs cs2 us us2 j content node joints contents even is uppers =
    let old = nodes_of js cs us in
    let old-many = nodes-length js cs us in
    let new-many = nodes-length after cs2 us2 in
    let many : length after ≡ length js + 1 = ap length joints ∙ length_push js j in
    let old-more = length_push old node in
    ext_get_or (empty_node 0 0) (nodes_of after cs2 us2) (old ++ node ∷ [])
    (omega (arith, new-many, many, old-more, old-many))
    (λ k within.
    let there : k < length after = omega (arith, within, new-many) in
    node-parts after cs2 us2 k there ∙ elim (cases_eq k (length js)) [
      | inl e ↦
          ap (λ (n : ℕ). node_of (joint_at after n) (content_at cs2 n) (upper_at us2 n)) e
          ∙ ap₂ (λ (x : Joint) (c : Value). node_of x c (upper_at us2 (length js)))
          (ap (λ (xs : List Joint). joint_at xs (length js)) joints
          ∙ get_or_push js j _ (length js) refl)
          (ap (λ (xs : List Value). content_at xs (length js)) contents
          ∙ get_or_push cs content Value.Nil (length js) even)
          ∙ is
          ∙ sym (get_or_push old node (empty_node 0 0) k (old-many ∙ sym e))
      | inr differ ↦
          let inside : k < length js = omega (arith, there, many, differ) in
          ap₂ (λ (x : Joint) (c : Value). node_of x c (upper_at us2 k))
          (ap (λ (xs : List Joint). joint_at xs k) joints
          ∙ get_or_append_left js (j ∷ []) _ k inside)
          (ap (λ (xs : List Value). content_at xs k) contents
          ∙ get_or_append_left cs (content ∷ []) Value.Nil k (omega (arith, inside, even)))
          ∙ ap (node_of (joint_at js k) (content_at cs k)) (uppers k differ)
          ∙ sym (node-parts js cs us k inside)
          ∙ sym (get_or_append_left old (node ∷ []) (empty_node 0 0) k
          (omega (arith, inside, old-many)))
    ])

-- what is read

pub in-joints : (js : List Joint) (cs : List Value) (us : List ℕ) (i : ℕ)
    → i < length (nodes_of js cs us) → i < length js
in-joints js cs us i h = omega (arith, h, nodes-length js cs us)

joint-there : (js : List Joint) (i : ℕ) (joint : Joint) → i < length js
    → joint ≡ get_or js i joint → joint ≡ joint_at js i
joint-there js i joint h is = is ∙ get_or_default js i joint _ h

pub joint-part : {X : Type 0} (f : Node → X) (js : List Joint) (cs : List Value) (us : List ℕ)
    (i : ℕ) (joint : Joint) → i < length (nodes_of js cs us) → joint ≡ get_or js i joint
    → f (node_of joint (content_at cs i) (upper_at us i)) ≡ f (node_at (nodes_of js cs us) i)
joint-part f js cs us i joint h is =
    let within = in-joints js cs us i h in
    ap (λ (j : Joint). f (node_of j (content_at cs i) (upper_at us i)))
    (joint-there js i joint within is)
    ∙ ap f (sym (node-parts js cs us i within))

pub stamp-there : (js : List Joint) (cs : List Value) (us : List ℕ) (i upper : ℕ) (joint : Joint)
    → i < length (nodes_of js cs us) → joint ≡ get_or js i joint → upper ≡ upper_at us i
    → upper * 2 ^ 64 + joint.lower ≡ (node_at (nodes_of js cs us) i).stamp
stamp-there js cs us i upper joint h is up =
    ap (λ (u : ℕ). u * 2 ^ 64 + joint.lower) up
    ∙ joint-part (λ (x : Node). x.stamp) js cs us i joint h is

pub content-there : (js : List Joint) (cs : List Value) (us : List ℕ) (i : ℕ) (content : Value)
    → length cs ≡ length js → i < length (nodes_of js cs us) → content ≡ get_or cs i content
    → content ≡ (node_at (nodes_of js cs us) i).content
content-there js cs us i content even h is =
    let within = in-joints js cs us i h in
    is ∙ get_or_default cs i content Value.Nil (omega (arith, within, even))
    ∙ ap (λ (x : Node). x.content) (sym (node-parts js cs us i within))

-- what is written

pub newer-set : (js : List Joint) (cs : List Value) (us : List ℕ) (i newer : ℕ) (joint : Joint)
    → i < length (nodes_of js cs us) → joint ≡ get_or js i joint
    → nodes_of (slice_set js i (record {
      lower = joint.lower;
      older = joint.older;
      newer = newer;
    })) cs us ≡ with_newer i newer (nodes_of js cs us)
newer-set js cs us i newer joint h is =
    let within = in-joints js cs us i h in
    let j : Joint = record { lower = joint.lower; older = joint.older; newer = newer } in
    parts-set js (slice_set js i j) cs cs us us i
    (record (node_at (nodes_of js cs us) i) { newer = newer }) within (length-set js i j)
    (ap (λ (x : Joint). node_of x (content_at cs i) (upper_at us i))
    (get_or-set_same js i j _ within)
    ∙ joint-part (λ (x : Node). record x { newer = newer }) js cs us i joint h is)
    (λ n differ. get_or-set_other js i n j _ differ) (λ n differ. refl) (λ n differ. refl)

pub older-set : (js : List Joint) (cs : List Value) (us : List ℕ) (i older : ℕ) (joint : Joint)
    → i < length (nodes_of js cs us) → joint ≡ get_or js i joint
    → nodes_of (slice_set js i (record {
      lower = joint.lower;
      older = older;
      newer = joint.newer;
    })) cs us ≡ with_older i older (nodes_of js cs us)
older-set js cs us i older joint h is =
    let within = in-joints js cs us i h in
    let j : Joint = record { lower = joint.lower; older = older; newer = joint.newer } in
    parts-set js (slice_set js i j) cs cs us us i
    (record (node_at (nodes_of js cs us) i) { older = older }) within (length-set js i j)
    (ap (λ (x : Joint). node_of x (content_at cs i) (upper_at us i))
    (get_or-set_same js i j _ within)
    ∙ joint-part (λ (x : Node). record x { older = older }) js cs us i joint h is)
    (λ n differ. get_or-set_other js i n j _ differ) (λ n differ. refl) (λ n differ. refl)

-- both halves of a stamp
whole : (upper lower stamp : ℕ) → upper ≡ stamp / 2 ^ 64 → lower ≡ stamp % 2 ^ 64
    → upper * 2 ^ 64 + lower ≡ stamp
whole upper lower stamp up low = ap₂ (λ (u l : ℕ). u * 2 ^ 64 + l) up low ∙ shr_split stamp 64

pub node-set : (js : List Joint) (cs : List Value) (us us2 : List ℕ) (i upper lower : ℕ)
    (node : Node) → length cs ≡ length js → i < length (nodes_of js cs us)
    → upper ≡ node.stamp / 2 ^ 64 → lower ≡ node.stamp % 2 ^ 64 → upper_at us2 i ≡ upper
    → ((n : ℕ) → n ≢ i → upper_at us2 n ≡ upper_at us n)
    → nodes_of (slice_set js i (record {
      lower = lower;
      older = node.older;
      newer = node.newer;
    })) (slice_set cs i node.content) us2 ≡ slice_set (nodes_of js cs us) i node
node-set js cs us us2 i upper lower node even h up low here others =
    let within = in-joints js cs us i h in
    let j : Joint = record { lower = lower; older = node.older; newer = node.newer } in
    parts-set js (slice_set js i j) cs (slice_set cs i node.content) us us2 i node within
    (length-set js i j)
    (ap₂ (λ (x : Joint) (c : Value). node_of x c (upper_at us2 i))
    (get_or-set_same js i j _ within)
    (get_or-set_same cs i node.content Value.Nil (omega (arith, within, even)))
    ∙ ap (λ (s : ℕ). record node { stamp = s })
    (ap (λ (u : ℕ). u * 2 ^ 64 + lower) here ∙ whole upper lower node.stamp up low))
    (λ n differ. get_or-set_other js i n j _ differ)
    (λ n differ. get_or-set_other cs i n node.content Value.Nil differ) others

pub version-set : (js : List Joint) (cs : List Value) (us us2 : List ℕ)
    (i upper lower stamp : ℕ) (content : Value) (joint : Joint) → length cs ≡ length js
    → i < length (nodes_of js cs us) → joint ≡ get_or js i joint → upper ≡ stamp / 2 ^ 64
    → lower ≡ stamp % 2 ^ 64 → upper_at us2 i ≡ upper
    → ((n : ℕ) → n ≢ i → upper_at us2 n ≡ upper_at us n)
    → nodes_of (slice_set js i (record {
      lower = lower;
      older = joint.older;
      newer = joint.newer;
    })) (slice_set cs i content) us2 ≡ new_content i stamp content (nodes_of js cs us)
version-set js cs us us2 i upper lower stamp content joint even h is up low here others =
    let within = in-joints js cs us i h in
    let node : Node = record {
      stamp = stamp;
      content = content;
      older = joint.older;
      newer = joint.newer;
    } in
    node-set js cs us us2 i upper lower node even h up low here others
    ∙ ap (slice_set (nodes_of js cs us) i)
    (joint-part (λ (x : Node). record x { stamp = stamp; content = content }) js cs us i joint h
    is)

pub node-push : (js after : List Joint) (cs cs2 : List Value) (us us2 : List ℕ)
    (place upper lower : ℕ) (node : Node)
    → after ≡ js ++ record { lower = lower; older = node.older; newer = node.newer } ∷ []
    → cs2 ≡ cs ++ node.content ∷ [] → length cs ≡ length js → place ≡ length js
    → upper ≡ node.stamp / 2 ^ 64 → lower ≡ node.stamp % 2 ^ 64 → upper_at us2 place ≡ upper
    → ((n : ℕ) → n ≢ place → upper_at us2 n ≡ upper_at us n)
    → nodes_of after cs2 us2 ≡ nodes_of js cs us ++ node ∷ []
node-push js after cs cs2 us us2 place upper lower node joints contents even at up low here others =
    let j : Joint = record { lower = lower; older = node.older; newer = node.newer } in
    parts-push js after cs cs2 us us2 j node.content node joints contents even
    (ap (λ (s : ℕ). record node { stamp = s })
    (ap (λ (u : ℕ). u * 2 ^ 64 + lower) (ap (upper_at us2) (sym at) ∙ here)
    ∙ whole upper lower node.stamp up low))
    (λ n differ. others n (λ e. differ (e ∙ at)))

pub pushed-zero : (us : List ℕ) (n : ℕ) → upper_at (us ++ 0 ∷ []) n ≡ upper_at us n
pushed-zero [] zero = refl
pushed-zero [] (suc n) = refl
pushed-zero (u ∷ us) zero = refl
pushed-zero (u ∷ us) (suc n) = pushed-zero us n
