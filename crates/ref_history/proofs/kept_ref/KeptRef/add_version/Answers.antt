use Rattle.std.proofs.Common.{◌≡◌, sym, ap, ◌∙◌, subst, ◌&&◌, not, IsTrue}
use Rattle.std.proofs.Common.{◌∷◌, take, length, refl, if◌then◌else◌}
use Rattle.ref_history.specs.Versioned.{with_version}
use Rattle.ref_history.specs.Kept.{KeptStands, version_of}
use Rattle.ref_history.specs.declared.kept_ref.KeptVersion.{KeptVersion}
use Rattle.ref_history.specs.declared.kept_ref.KeptRef.{KeptRef}
use Rattle.ref_history.proofs.Standing.{some-ref, added-stands}
use Rattle.ref_history.proofs.kept_ref.KeptRef.add_version.Goals.{then-self, else-self}
use Rattle.ref_history.proofs.kept_ref.KeptRef.add_version.Goals as goal

pub put_first-requires : goal.put_first-requires
put_first-requires c = λ grown.
    let seen = some-ref c.args.self.now in
    c.requires seen.0 seen.1 (subst (λ b. IsTrue b) (c.grows-grows.ensures seen.0 seen.1) grown)

pub returns : goal.returns
returns c = λ r s.
    let was = c.args.self.now in
    let g = c.grows-grows.result in
    let faulted : c.if-self.self ≡ (was.is_faulted && not g) = elim c.if-self.branch [
      | then-self w ↦ w.self-is ∙ sym (ap (λ b. b && not g) w.if-self.true)
      | else-self w ↦ w.self-is ∙ w.if-self.false ∙ sym (ap (λ b. b && not g) w.if-self.false)
    ] in
    let now : KeptRef = record {
      newest = c.replace-newest.new.dest;
      older = c.put_first.new.versions;
      is_faulted = c.if-self.self;
      bounds = was.bounds;
    } in
    let older = was.older.items in
    subst (λ v. KeptStands now (with_version v r)) (ap version_of c.replace-newest.ensures.after)
    (added-stands was now r g (c.grows-grows.ensures r s) s
    (c.put_first.ensures
    ∙ ap (λ (v : KeptVersion). if g then v ∷ older else take (length older) (v ∷ older))
    c.replace-newest.ensures.value)
    faulted refl)
