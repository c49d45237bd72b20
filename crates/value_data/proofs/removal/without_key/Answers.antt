use Rattle.std.proofs.Common.{◌<◌, length, subst, sym}
use Rattle.value_data.specs.Datum.{Pairs}
use Rattle.value_data.specs.Inside.View.{view}
use Rattle.value_data.specs.Inside.Nodes.{entry_pairs}
use Rattle.value_data.specs.Inside.Seen.{MayFit, entry_view}
use Rattle.value_data.proofs.Editing.{first_place-within}
use Rattle.value_data.proofs.Leaving.{left-index}
use Rattle.value_data.proofs.Removing.{left-found, left-absent, left-distinct, left-pairs}
use Rattle.value_data.proofs.Replacing.{stands-at}
use Rattle.value_data.proofs.removal.without_key.Goals as goal

pub pair-requires : goal.pair-requires
pair-requires c = first_place-within c.args.edited.entries.listed (view c.args.key.now) c.in-Ok.found.place c.in-Ok.ensures.found

pub without-requires : goal.without-requires
without-requires c = first_place-within c.args.edited.entries.listed (view c.args.key.now) c.in-Ok.found.place c.in-Ok.ensures.found

pub returns-in_ok-without-in-Ok-2-clause-left : goal.returns-in_ok-without-in-Ok-2-clause-left
returns-in_ok-without-in-Ok-2-clause-left c =
    left-found c.args.edited.entries.listed c.in_ok-without-in-Ok.field-0.listed (view c.args.key.now) c.in-Ok.found.place c.requires.distinct c.in-Ok.ensures.found
    c.in_ok-without-in-Ok.ensures

pub returns-in_ok-without-in-Ok-2-clause-keeps : goal.returns-in_ok-without-in-Ok-2-clause-keeps
returns-in_ok-without-in-Ok-2-clause-keeps c =
    let qs = c.args.edited.entries.listed in
    let rs = c.in_ok-without-in-Ok.field-0.listed in
    let key = view c.args.key.now in
    let place = c.in-Ok.found.place in
    let within : place < length qs = first_place-within qs key place c.in-Ok.ensures.found in
    record {
      peaked =
          subst (λ (ps : Pairs). MayFit c.peaks_without.result ps) (sym (left-pairs qs rs place c.in_ok-without-in-Ok.ensures))
          (c.peaks_without.ensures (entry_pairs c.args.edited.entries) place c.requires.peaked (stands-at qs place (entry_view c.pair.result) c.pair.ensures within));
      distinct = left-distinct qs rs key place c.requires.distinct c.in-Ok.ensures.found c.in_ok-without-in-Ok.ensures;
      indexed =
          left-index qs rs c.args.edited.index c.in_ok-without-in-Ok-2.field-0 c.in-Ok.found.rank place c.requires.indexed c.in-Ok.ensures.ranked
          c.in_ok-without-in-Ok.ensures c.in_ok-without-in-Ok-2.ensures;
    }

pub returns-in-Err-clause-left : goal.returns-in-Err-clause-left
returns-in-Err-clause-left c = left-absent c.args.edited.entries.listed (view c.args.key.now) c.in-Err.ensures.new.absent
