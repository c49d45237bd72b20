-- Ids go on standing for refs.
use Rattle.std.proofs.Common.{◌≡◌, ◌≢◌, ℕ, suc, List, [], ◌∷◌, ◌++◌, length, Option, Some, None}
use Rattle.std.proofs.Common.{refl, sym, ap, ◌∙◌, subst, inl, inr, slice_get}
use Rattle.std.specs.Prelude.{option_map, ◌⊎◌, ◌↔◌}
use Rattle.value_data.specs.Datum.{OwnerData}
use Rattle.ref_history.specs.Versioned.{Ref}
use Rattle.ref_table.specs.Numbered.{changed_at}
use Rattle.ref_history.specs.Changes.{RefsById, IsAbsent, SameRefs, SameBut, Changed}
use Rattle.ref_history.specs.declared.ref_id.RefId.{RefId}
use Rattle.ref_table.specs.Departed.{ids_left}
use Rattle.ref_table.specs.Directory.{refs_of}
use Rattle.ref_table.specs.Standing.{Matches, StandFor, Holder, of_owner, of_batch, ids_held}
use Rattle.ref_table.specs.Standing.{AreApart, AreKept, KeepsNoMore}
use Rattle.ref_table.specs.declared.departed.Departed.{Departed}
use Rattle.ref_table.specs.declared.directory.Directory.{Directory}
use Rattle.ref_table.proofs.Owners.{owners, holders, owner-same, owner-batch, numbers}
use Rattle.ref_table.proofs.Owners.{some-same, none-some, slice_get-behind}
use Rattle.ref_table.proofs.Owners.{slice_get-changed, slice_get-changed_other}
use Rattle.ref_table.proofs.Owners.{slice_get-added, slice_get-added_other, slice_get-front}
use Rattle.ref_table.proofs.Owners.{ids as which, among}

-- the ref for which an id stands is there
pub there : (standing : RefsById) (o : Option RefId) (r : Option Ref) (id : RefId)
    → Matches standing o r → o ≡ Some id → (ref : Ref) × (r ≡ Some ref) × standing id ref
there standing None r id h e = absurd (none-some e)
there standing (Some i) None id h e = absurd h
there standing (Some i) (Some ref) id h e =
    (ref, refl, subst (λ i. standing i ref) (some-same i id e) h)

pub absent : (standing : RefsById) (o : Option RefId) (r : Option Ref)
    → Matches standing o r → o ≡ None → r ≡ None
absent standing None None h e = refl
absent standing None (Some ref) h e = absurd h
absent standing (Some i) r h e = absurd (none-some (sym e))

kept : (old new : RefsById) (o : Option RefId) (r : Option Ref)
    → ((id : RefId) (ref : Ref) → o ≡ Some id → old id ref → new id ref)
    → Matches old o r → Matches new o r
kept old new None None keeps h = tt
kept old new None (Some ref) keeps h = absurd h
kept old new (Some id) None keeps h = absurd h
kept old new (Some id) (Some ref) keeps h = keeps id ref refl h

became : (old new : RefsById) (o : Option RefId) (r : Option Ref) (id : RefId) (f : Ref → Ref)
    → Changed id f old new → o ≡ Some id → Matches old o r → Matches new o (option_map f r)
became old new None r id f change e h = absurd (none-some e)
became old new (Some i) None id f change e h = absurd h
became old new (Some i) (Some ref) id f change e h =
    subst (λ i. new i (f ref)) (sym (some-same i id e))
    (change.changed ref (subst (λ i. old i ref) (some-same i id e) h))

-- what all ids stand for stays
pub stand-same : (old new : RefsById) (ids : OwnerData → List RefId) (refs : OwnerData → List Ref)
    → SameRefs old new → StandFor old ids refs → StandFor new ids refs
stand-same old new ids refs same h o n =
    kept old new (slice_get (ids o) n) (slice_get (refs o) n) (λ id ref e. (same id ref).0) (h o n)

-- the refs are the same, said otherwise
pub stand-equal : (standing : RefsById) (ids : OwnerData → List RefId)
    (refs later : OwnerData → List Ref) → ((o : OwnerData) → later o ≡ refs o)
    → StandFor standing ids refs → StandFor standing ids later
stand-equal standing ids refs later same h o n =
    subst (λ l. Matches standing (slice_get (ids o) n) (slice_get l n)) (sym (same o)) (h o n)

-- the ref of one id changes
pub stand-changed : (old new : RefsById) (ids : OwnerData → List RefId)
    (refs later : OwnerData → List Ref) (w : OwnerData) (m : ℕ) (id : RefId) (f : Ref → Ref)
    → slice_get (ids w) m ≡ Some id → AreApart ids → Changed id f old new
    → later w ≡ changed_at m f (refs w) → ((o : OwnerData) → o ≢ w → later o ≡ refs o)
    → StandFor old ids refs → StandFor new ids later
stand-changed old new ids refs later w m id f here apart change changes others h o n =
    elim (owners o w) [
      | inl same ↦
          subst (λ o. Matches new (slice_get (ids o) n) (slice_get (later o) n)) (sym same) (at_owner n)
      | inr differs ↦
          subst (λ l. Matches new (slice_get (ids o) n) (slice_get l n)) (sym (others o differs))
          (unchanged o n (λ e. differs (e.0)))
    ] where
      unchanged : (o : OwnerData) (n : ℕ) → ((o ≡ w) × (n ≡ m) → ⊥)
          → Matches new (slice_get (ids o) n) (slice_get (refs o) n)
      unchanged o n differs = kept old new (slice_get (ids o) n) (slice_get (refs o) n)
          (λ i ref e. (change.others i
          (λ same. differs (apart o w n m id (e ∙ ap Some same) here)) ref).0)
          (h o n)

      at_owner : (n : ℕ) → Matches new (slice_get (ids w) n) (slice_get (later w) n)
      at_owner n = subst (λ l. Matches new (slice_get (ids w) n) (slice_get l n)) (sym changes)
          (elim (numbers n m) [
            | inl same ↦ subst
                (λ n. Matches new (slice_get (ids w) n) (slice_get (changed_at m f (refs w)) n))
                (sym same)
                (subst (λ r. Matches new (slice_get (ids w) m) r)
                (sym (slice_get-changed m f (refs w)))
                (became old new (slice_get (ids w) m) (slice_get (refs w) m) id f change here (h w m)))
            | inr differs ↦ subst (λ r. Matches new (slice_get (ids w) n) r)
                (sym (slice_get-changed_other n m f (refs w) differs))
                (unchanged w n (λ e. differs e.1))
          ])

-- no two refs of owners have one id
pub owned-apart : (d : Directory) (gone : Departed) → AreApart (ids_held d gone)
    → AreApart (refs_of d)
owned-apart d gone apart o p n m i e f =
    let both = apart (of_owner o) (of_owner p) n m i e f in
    (owner-same o p both.0, both.1)

-- an owner's ids are as many as its refs
pub lengths : (standing : RefsById) (ids : List RefId) (refs : List Ref)
    → ((n : ℕ) → Matches standing (slice_get ids n) (slice_get refs n))
    → length ids ≡ length refs
lengths standing [] [] h = refl
lengths standing [] (r ∷ refs) h = absurd (h 0)
lengths standing (i ∷ ids) [] h = absurd (h 0)
lengths standing (i ∷ ids) (r ∷ refs) h = ap suc (lengths standing ids refs (λ n. h (suc n)))

-- an id that stands for nothing is no ref's
pub fresh : (standing : RefsById) (ids : OwnerData → List RefId) (refs : OwnerData → List Ref)
    (id : RefId) → IsAbsent standing id → StandFor standing ids refs
    → (o : OwnerData) (n : ℕ) → slice_get (ids o) n ≢ Some id
fresh standing ids refs id none h o n e =
    let found = there standing (slice_get (ids o) n) (slice_get (refs o) n) id (h o n) e in
    none found.0 found.2

-- an owner has one ref more
pub stand-made : (old new : RefsById) (ids more : OwnerData → List RefId)
    (refs later : OwnerData → List Ref) (w : OwnerData) (id : RefId) (ref : Ref)
    → more w ≡ ids w ++ id ∷ [] → ((o : OwnerData) → o ≢ w → more o ≡ ids o)
    → later w ≡ refs w ++ ref ∷ [] → ((o : OwnerData) → o ≢ w → later o ≡ refs o)
    → IsAbsent old id → new id ref → SameBut id old new
    → StandFor old ids refs → StandFor new more later
stand-made old new ids more refs later w id ref adds rest makes others none here same h o n =
    elim (owners o w) [
      | inl is ↦
          subst (λ o. Matches new (slice_get (more o) n) (slice_get (later o) n)) (sym is) (at_owner n)
      | inr differs ↦
          subst (λ l. Matches new (slice_get l n) (slice_get (later o) n)) (sym (rest o differs))
          (subst (λ l. Matches new (slice_get (ids o) n) (slice_get l n)) (sym (others o differs))
          (unchanged o n))
    ] where
      unchanged : (o : OwnerData) (n : ℕ)
          → Matches new (slice_get (ids o) n) (slice_get (refs o) n)
      unchanged o n = kept old new (slice_get (ids o) n) (slice_get (refs o) n)
          (λ i r e. (same i
          (λ is. fresh old ids refs id none h o n (e ∙ ap Some is)) r).0)
          (h o n)

      many : length (ids w) ≡ length (refs w)
      many = lengths old (ids w) (refs w) (h w)

      added : (n : ℕ)
          → Matches new (slice_get (ids w ++ id ∷ []) n) (slice_get (refs w ++ ref ∷ []) n)
      added n = elim (numbers n (length (ids w))) [
        | inl last ↦
            subst (λ n. Matches new (slice_get (ids w ++ id ∷ []) n) (slice_get (refs w ++ ref ∷ []) n))
            (sym last)
            (subst (λ o. Matches new o (slice_get (refs w ++ ref ∷ []) (length (ids w))))
            (sym (slice_get-added (ids w) id))
            (subst (λ r. Matches new (Some id) r)
            (sym (ap (slice_get (refs w ++ ref ∷ [])) many ∙ slice_get-added (refs w) ref)) here))
        | inr differs ↦
            subst (λ o. Matches new o (slice_get (refs w ++ ref ∷ []) n))
            (sym (slice_get-added_other n (ids w) id differs))
            (subst (λ r. Matches new (slice_get (ids w) n) r)
            (sym (slice_get-added_other n (refs w) ref (λ e. differs (e ∙ sym many))))
            (unchanged w n))
      ]

      at_owner : (n : ℕ) → Matches new (slice_get (more w) n) (slice_get (later w) n)
      at_owner n = subst (λ l. Matches new (slice_get l n) (slice_get (later w) n)) (sym adds)
          (subst (λ l. Matches new (slice_get (ids w ++ id ∷ []) n) (slice_get l n)) (sym makes)
          (added n))

-- and its id is none of the others
pub apart-made : (ids more : Holder → List RefId) (w : Holder) (id : RefId)
    → more w ≡ ids w ++ id ∷ [] → ((o : Holder) → o ≢ w → more o ≡ ids o)
    → ((o : Holder) (n : ℕ) → slice_get (ids o) n ≢ Some id) → AreApart ids → AreApart more
apart-made ids more w id adds rest new apart o p n m i e f =
    elim (where_is o n i e) [
      | inl old ↦ elim (where_is p m i f) [
        | inl older ↦ apart o p n m i old older
        | inr last ↦ absurd (new o n (old ∙ ap Some last.2))
      ]
      | inr last ↦ elim (where_is p m i f) [
        | inl old ↦ absurd (new p m (old ∙ ap Some last.2))
        | inr later ↦ (last.0 ∙ sym later.0, last.1 ∙ sym later.1)
      ]
    ] where
      -- an id is an older one, or the new one at its place
      where_is : (o : Holder) (n : ℕ) (i : RefId) → slice_get (more o) n ≡ Some i
          → (slice_get (ids o) n ≡ Some i) ⊎ ((o ≡ w) × (n ≡ length (ids w)) × (i ≡ id))
      where_is o n i e = elim (holders o w) [
        | inr differs ↦ inl (ap (λ l. slice_get l n) (sym (rest o differs)) ∙ e)
        | inl is ↦ elim (numbers n (length (ids w))) [
          | inl last ↦ inr (
            is,
            last,
            some-same i id (sym e
                ∙ ap (λ o. slice_get (more o) n) is ∙ ap (λ l. slice_get l n) adds
                ∙ ap (slice_get (ids w ++ id ∷ [])) last ∙ slice_get-added (ids w) id),
          )
          | inr before ↦ inl (ap (λ o. slice_get (ids o) n) is
              ∙ sym (slice_get-added_other n (ids w) id before)
              ∙ ap (λ l. slice_get l n) (sym adds) ∙ ap (λ o. slice_get (more o) n) (sym is) ∙ e)
        ]
      ]

-- an owner's refs are dropped
pub stand-released : (old new : RefsById) (ids fewer : OwnerData → List RefId)
    (refs later : OwnerData → List Ref) (w : OwnerData)
    → fewer w ≡ [] → ((o : OwnerData) → o ≢ w → fewer o ≡ ids o)
    → later w ≡ [] → ((o : OwnerData) → o ≢ w → later o ≡ refs o)
    → ((i : RefId) → ((n : ℕ) → slice_get (ids w) n ≢ Some i)
    → (ref : Ref) → old i ref → new i ref)
    → AreApart ids → StandFor old ids refs → StandFor new fewer later
stand-released old new ids fewer refs later w gone rest none others keeps apart h o n =
    elim (owners o w) [
      | inl is ↦
          subst (λ o. Matches new (slice_get (fewer o) n) (slice_get (later o) n)) (sym is)
          (subst (λ l. Matches new (slice_get l n) (slice_get (later w) n)) (sym gone)
          (subst (λ l. Matches new None (slice_get l n)) (sym none) tt))
      | inr differs ↦
          subst (λ l. Matches new (slice_get l n) (slice_get (later o) n)) (sym (rest o differs))
          (subst (λ l. Matches new (slice_get (ids o) n) (slice_get l n)) (sym (others o differs))
          (kept old new (slice_get (ids o) n) (slice_get (refs o) n)
          (λ i ref e. keeps i (λ m f. differs (apart o w n m i e f).0) ref) (h o n)))
    ]

pub apart-released : (ids fewer : Holder → List RefId) (w : Holder)
    → fewer w ≡ [] → ((o : Holder) → o ≢ w → fewer o ≡ ids o)
    → AreApart ids → AreApart fewer
apart-released ids fewer w gone rest apart o p n m i e f =
    apart o p n m i (was o n i e) (was p m i f) where
      was : (o : Holder) (n : ℕ) (i : RefId) → slice_get (fewer o) n ≡ Some i
          → slice_get (ids o) n ≡ Some i
      was o n i e = elim (holders o w) [
        | inl is ↦ absurd (none-some (sym (ap (λ l. slice_get l n) gone)
            ∙ ap (λ o. slice_get (fewer o) n) (sym is) ∙ e))
        | inr differs ↦ ap (λ l. slice_get l n) (sym (rest o differs)) ∙ e
      ]

-- Nothing else is kept

pub no_more-same : (old new : RefsById) (ids : Holder → List RefId) → SameRefs old new
    → KeepsNoMore old ids → KeepsNoMore new ids
no_more-same old new ids same keeps id r h = keeps id r ((same id r).1 h)

pub no_more-changed : (old new : RefsById) (ids : Holder → List RefId) (w : Holder) (m : ℕ)
    (id : RefId) → slice_get (ids w) m ≡ Some id → SameBut id old new
    → KeepsNoMore old ids → KeepsNoMore new ids
no_more-changed old new ids w m id here same keeps i r h = elim (which i id) [
  | inl is ↦ (w, m, here ∙ ap Some (sym is))
  | inr differs ↦ keeps i r ((same i differs r).1 h)
]

pub no_more-made : (old new : RefsById) (ids more : Holder → List RefId) (w : Holder)
    (id : RefId) → more w ≡ ids w ++ id ∷ [] → ((o : Holder) → o ≢ w → more o ≡ ids o)
    → SameBut id old new → KeepsNoMore old ids → KeepsNoMore new more
no_more-made old new ids more w id adds rest same keeps i r h = elim (which i id) [
  | inl is ↦ (
    w,
    length (ids w),
    ap (λ l. slice_get l (length (ids w))) adds
        ∙ slice_get-added (ids w) id ∙ ap Some (sym is),
  )
  | inr differs ↦ older (keeps i r ((same i differs r).1 h))
] where
  older : (o : Holder) × (n : ℕ) × (slice_get (ids o) n ≡ Some i)
      → (o : Holder) × (n : ℕ) × (slice_get (more o) n ≡ Some i)
  older found = (
    found.0,
    found.1,
    elim (holders found.0 w) [
      | inl is ↦ ap (λ o. slice_get (more o) found.1) is ∙ ap (λ l. slice_get l found.1) adds
          ∙ slice_get-front found.1 (ids w) i id
          (ap (λ o. slice_get (ids o) found.1) (sym is) ∙ found.2)
      | inr differs ↦ ap (λ l. slice_get l found.1) (rest found.0 differs) ∙ found.2
    ],
  )

pub no_more-released : (old new : RefsById) (ids fewer : Holder → List RefId) (w : Holder)
    → ((o : Holder) → o ≢ w → fewer o ≡ ids o)
    → ((n : ℕ) (i : RefId) → slice_get (ids w) n ≡ Some i → IsAbsent new i)
    → ((i : RefId) → ((n : ℕ) → slice_get (ids w) n ≢ Some i)
    → (ref : Ref) → old i ref ↔ new i ref)
    → KeepsNoMore old ids → KeepsNoMore new fewer
no_more-released old new ids fewer w rest gone others keeps i r h = elim (among i (ids w)) [
  | inl found ↦ absurd (gone found.0 i found.1 r h)
  | inr none ↦ older none (keeps i r ((others i none r).1 h))
] where
  older : ((n : ℕ) → slice_get (ids w) n ≢ Some i)
      → (o : Holder) × (n : ℕ) × (slice_get (ids o) n ≡ Some i)
      → (o : Holder) × (n : ℕ) × (slice_get (fewer o) n ≡ Some i)
  older none found = (
    found.0,
    found.1,
    ap (λ l. slice_get l found.1) (rest found.0
        (λ is. none found.1 (ap (λ o. slice_get (ids o) found.1) (sym is) ∙ found.2)))
        ∙ found.2,
  )

-- What is left of those who are gone is kept

pub kept-same : (old new : RefsById) (ids : ℕ → List RefId) → SameRefs old new
    → AreKept old ids → AreKept new ids
kept-same old new ids same keeps b n i e =
    let found = keeps b n i e in
    (found.0, (same i found.0).0 found.1)

pub kept-changed : (old new : RefsById) (ids : ℕ → List RefId) (id : RefId) (f : Ref → Ref)
    → Changed id f old new → AreKept old ids → AreKept new ids
kept-changed old new ids id f change keeps b n i e =
    let found = keeps b n i e in
    elim (which i id) [
      | inl is ↦ (
        f found.0,
        subst (λ i. new i (f found.0)) (sym is)
            (change.changed found.0 (subst (λ i. old i found.0) is found.1)),
      )
      | inr differs ↦ (found.0, (change.others i differs found.0).0 found.1)
    ]

pub kept-made : (old new : RefsById) (ids : ℕ → List RefId) (id : RefId)
    → IsAbsent old id → SameBut id old new → AreKept old ids → AreKept new ids
kept-made old new ids id none same keeps b n i e =
    let found = keeps b n i e in
    (found.0, (same i (λ is. none found.0 (subst (λ i. old i found.0) is found.1)) found.0).0 found.1)

pub kept-released : (old new : RefsById) (d : Directory) (gone : Departed) (w : OwnerData)
    → AreApart (ids_held d gone)
    → ((i : RefId) → ((n : ℕ) → slice_get (refs_of d w) n ≢ Some i)
    → (ref : Ref) → old i ref → new i ref)
    → AreKept old (ids_left gone) → AreKept new (ids_left gone)
kept-released old new d gone w apart stays keeps b n i e =
    let found = keeps b n i e in (
      found.0,
      stays i (λ m f. owner-batch w b (apart (of_owner w) (of_batch b) m n i f e).0) found.0 found.1,
    )

-- an id that stands for nothing is nobody's
pub fresh-held : (standing : RefsById) (d : Directory) (gone : Departed)
    (refs : OwnerData → List Ref) (id : RefId) → IsAbsent standing id
    → StandFor standing (refs_of d) refs → AreKept standing (ids_left gone)
    → (h : Holder) (n : ℕ) → slice_get (ids_held d gone h) n ≢ Some id
fresh-held standing d gone refs id none s keeps (of_owner o) n e =
    fresh standing (refs_of d) refs id none s o n e
fresh-held standing d gone refs id none s keeps (of_batch b) n e =
    let found = keeps b n id e in
    none found.0 found.1

-- What a holder has becomes another's, who had nothing

pub apart-moved : (ids new : Holder → List RefId) (w v : Holder) → new v ≡ ids w → new w ≡ []
    → ((h : Holder) → h ≢ w → h ≢ v → new h ≡ ids h) → AreApart ids → AreApart new
apart-moved ids new w v here gone rest apart h k n m i e f =
    elim (was h n i e) [
      | inl mine ↦ elim (was k m i f) [
        | inl its ↦ (mine.0 ∙ sym its.0, (apart w w n m i mine.1 its.1).1)
        | inr its ↦ absurd (its.0 (sym (apart w k n m i mine.1 its.1).0))
      ]
      | inr mine ↦ elim (was k m i f) [
        | inl its ↦ absurd (mine.0 (apart h w n m i mine.1 its.1).0)
        | inr its ↦ apart h k n m i mine.1 its.1
      ]
    ] where
      was : (h : Holder) (n : ℕ) (i : RefId) → slice_get (new h) n ≡ Some i
          → ((h ≡ v) × (slice_get (ids w) n ≡ Some i)) ⊎ ((h ≢ w) × (slice_get (ids h) n ≡ Some i))
      was h n i e = elim (holders h v) [
        | inl is ↦ inl (
          is,
          ap (λ l. slice_get l n) (sym here) ∙ ap (λ h. slice_get (new h) n) (sym is) ∙ e,
        )
        | inr other ↦ elim (holders h w) [
          | inl is ↦ absurd (none-some (sym (ap (λ l. slice_get l n) gone)
              ∙ ap (λ h. slice_get (new h) n) (sym is) ∙ e))
          | inr differs ↦ inr (differs, ap (λ l. slice_get l n) (sym (rest h differs other)) ∙ e)
        ]
      ]

pub no_more-moved : (standing : RefsById) (ids new : Holder → List RefId) (w v : Holder)
    → ids v ≡ [] → new v ≡ ids w → ((h : Holder) → h ≢ w → h ≢ v → new h ≡ ids h)
    → KeepsNoMore standing ids → KeepsNoMore standing new
no_more-moved standing ids new w v none here rest keeps i r h = moved (keeps i r h) where
  moved : (o : Holder) × (n : ℕ) × (slice_get (ids o) n ≡ Some i)
      → (o : Holder) × (n : ℕ) × (slice_get (new o) n ≡ Some i)
  moved found = elim (holders found.0 w) [
    | inl is ↦ (
      v,
      found.1,
      ap (λ l. slice_get l found.1) here ∙ ap (λ h. slice_get (ids h) found.1) (sym is) ∙ found.2,
    )
    | inr differs ↦ (
      found.0,
      found.1,
      ap (λ l. slice_get l found.1) (rest found.0 differs
          (λ is. none-some (sym (ap (λ l. slice_get l found.1) none)
          ∙ ap (λ h. slice_get (ids h) found.1) (sym is) ∙ found.2)))
          ∙ found.2,
    )
  ]

pub kept-moved : (standing : RefsById) (ids more : ℕ → List RefId) (own : List RefId)
    (refs : List Ref) (b : ℕ) → more b ≡ own → ((n : ℕ) → n ≢ b → more n ≡ ids n)
    → ((n : ℕ) → Matches standing (slice_get own n) (slice_get refs n))
    → AreKept standing ids → AreKept standing more
kept-moved standing ids more own refs b here rest stand keeps c n i e = elim (numbers c b) [
  | inl is ↦
      let found = there standing (slice_get own n) (slice_get refs n) i (stand n)
      (ap (λ l. slice_get l n) (sym here) ∙ ap (λ c. slice_get (more c) n) (sym is) ∙ e) in
      (found.0, found.2)
  | inr differs ↦ keeps c n i (ap (λ l. slice_get l n) (sym (rest c differs)) ∙ e)
]

-- A ref of one who is gone is dropped

abbrev pub Loses : (Holder → List RefId) → Holder → RefId → (Holder → List RefId) → Type 0
Loses ids w id new =
    (ids w ≡ new w ++ id ∷ []) × ((h : Holder) → h ≢ w → new h ≡ ids h)

pub was-held : (ids new : Holder → List RefId) (w : Holder) (id : RefId) → Loses ids w id new
    → (h : Holder) (n : ℕ) (i : RefId) → slice_get (new h) n ≡ Some i → slice_get (ids h) n ≡ Some i
was-held ids new w id loses h n i e = elim (holders h w) [
  | inl is ↦
      ap (λ h. slice_get (ids h) n) is ∙ ap (λ l. slice_get l n) loses.0
      ∙ slice_get-front n (new w) i id (ap (λ h. slice_get (new h) n) (sym is) ∙ e)
  | inr differs ↦ ap (λ l. slice_get l n) (sym (loses.1 h differs)) ∙ e
]

pub apart-dropped : (ids new : Holder → List RefId) (w : Holder) (id : RefId) → Loses ids w id new
    → AreApart ids → AreApart new
apart-dropped ids new w id loses apart h k n m i e f =
    apart h k n m i (was-held ids new w id loses h n i e) (was-held ids new w id loses k m i f)

-- nobody has it any more
pub none-held : (ids new : Holder → List RefId) (w : Holder) (id : RefId) → Loses ids w id new
    → AreApart ids → (h : Holder) (n : ℕ) → slice_get (new h) n ≢ Some id
none-held ids new w id loses apart h n e =
    let same = apart h w n (length (new w)) id (was-held ids new w id loses h n id e)
    (ap (λ l. slice_get l (length (new w))) loses.0 ∙ slice_get-added (new w) id) in
    none-some (sym (slice_get-behind (new w))
    ∙ ap (λ n. slice_get (new w) n) (sym same.1) ∙ ap (λ h. slice_get (new h) n) (sym same.0) ∙ e)

pub stand-dropped : (old new : RefsById) (ids : OwnerData → List RefId)
    (refs : OwnerData → List Ref) (id : RefId)
    → ((o : OwnerData) (n : ℕ) → slice_get (ids o) n ≢ Some id) → SameBut id old new
    → StandFor old ids refs → StandFor new ids refs
stand-dropped old new ids refs id none same h o n =
    kept old new (slice_get (ids o) n) (slice_get (refs o) n)
    (λ i ref e. (same i (λ is. none o n (e ∙ ap Some is)) ref).0) (h o n)

pub kept-dropped : (old new : RefsById) (ids fewer : ℕ → List RefId) (id : RefId)
    → ((b n : ℕ) (i : RefId) → slice_get (fewer b) n ≡ Some i → slice_get (ids b) n ≡ Some i)
    → ((b n : ℕ) → slice_get (fewer b) n ≢ Some id) → SameBut id old new
    → AreKept old ids → AreKept new fewer
kept-dropped old new ids fewer id was none same keeps b n i e =
    let found = keeps b n i (was b n i e) in
    (found.0, (same i (λ is. none b n (e ∙ ap Some is)) found.0).0 found.1)

pub no_more-dropped : (old new : RefsById) (ids fewer : Holder → List RefId) (w : Holder)
    (id : RefId) → Loses ids w id fewer → IsAbsent new id → SameBut id old new
    → KeepsNoMore old ids → KeepsNoMore new fewer
no_more-dropped old new ids fewer w id loses gone same keeps i r h = elim (which i id) [
  | inl is ↦ absurd (gone r (subst (λ i. new i r) is h))
  | inr differs ↦ left differs (keeps i r ((same i differs r).1 h))
] where
  left : i ≢ id → (o : Holder) × (n : ℕ) × (slice_get (ids o) n ≡ Some i)
      → (o : Holder) × (n : ℕ) × (slice_get (fewer o) n ≡ Some i)
  left differs found = (
    found.0,
    found.1,
    elim (holders found.0 w) [
      | inr other ↦ ap (λ l. slice_get l found.1) (loses.1 found.0 other) ∙ found.2
      | inl is ↦
          let here : slice_get (fewer w ++ id ∷ []) found.1 ≡ Some i =
          ap (λ l. slice_get l found.1) (sym loses.0)
          ∙ ap (λ h. slice_get (ids h) found.1) (sym is) ∙ found.2 in
          ap (λ h. slice_get (fewer h) found.1) is
          ∙ sym (slice_get-added_other found.1 (fewer w) id
          (λ last. differs (some-same i id (sym here
          ∙ ap (slice_get (fewer w ++ id ∷ [])) last ∙ slice_get-added (fewer w) id))))
          ∙ here
    ],
  )

-- a ref that was made and dropped
pub undone : (old made new : RefsById) (id : RefId) → IsAbsent old id → SameBut id old made
    → IsAbsent new id → SameBut id made new → SameRefs old new
undone old made new id none makes gone drops i r = elim (which i id) [
  | inl is ↦ (
    λ h. absurd (none r (subst (λ i. old i r) is h)),
    λ h. absurd (gone r (subst (λ i. new i r) is h)),
  )
  | inr differs ↦ (
    λ h. (drops i differs r).0 ((makes i differs r).0 h),
    λ h. (makes i differs r).1 ((drops i differs r).1 h),
  )
]
