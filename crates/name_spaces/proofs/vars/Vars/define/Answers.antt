use Rattle.std.proofs.Common.{arith}
use Rattle.std.proofs.lemmas.Map.Text.{text_keys}
use mathlib.Core.Path.{fun_ext}
use Rattle.name_spaces.proofs.vars.Vars.define.Goals as goal

pub returns-clause-bound : goal.returns-clause-bound
returns-clause-bound c = fun_ext (λ q. grind (arith, text_keys))
