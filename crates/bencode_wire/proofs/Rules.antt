-- Lemmas that the checks of the code take, by the names of the functions that want them.
use Rattle.bencode_wire.proofs.Views as views

pub ruleset item_steps = (views.trees_view-push)
