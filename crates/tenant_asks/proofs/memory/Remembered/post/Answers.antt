use Rattle.std.proofs.Common.{◌∙◌, ◌++◌, ℕ, List, map, ap, sym}
use Rattle.std.proofs.lemmas.List.{map-append}
use Rattle.std.proofs.lemmas.Result.{on_ok_weaker}
use Rattle.repl_replies.specs.Replies.{bytes_of}
use Rattle.tenant_parts.specs.Replies.{made_bytes}
use Rattle.tenant_asks.proofs.memory.Remembered.post.Goals as goal

pub returns-clause-posted : goal.returns-clause-posted
returns-clause-posted c = λ g t q more remembers made.
    on_ok_weaker c.post.result
    (λ posted. record {
      sessions = remembers.sessions;
      bare = remembers.bare;
      spaces = remembers.spaces;
      names = remembers.names;
      cells = remembers.cells;
      replies = posted
          ∙ ap (λ (xs : List (List ℕ)). xs ++ made_bytes c.args.batch) remembers.replies
          ∙ ap (λ (xs : List (List ℕ)). map bytes_of q.replies ++ xs) made
          ∙ sym (map-append bytes_of q.replies more);
    }) c.post.ensures.posted
