-- The session of an operation is one that the request names.
use Rattle.std.proofs.Common.{◌≡◌, ℕ, List, Option, Some, None, Ok, Err, refl, sym, ap, ◌∙◌, IfOk}
use Rattle.std.specs.Option.{option_and_then, ForSome}
use Rattle.std.specs.Result.{result_map_both}
use Rattle.std.specs.declared.result.Result.{Result}
use Rattle.bencode_wire.specs.Tree.{Tree, TreePairs}
use Rattle.repl_replies.specs.Inside.Named.{session_of, IsNamed}
use Rattle.repl_replies.specs.Fields.{as_string}
use Rattle.repl_replies.specs.Operations as operations
use Rattle.repl_replies.specs.Operations.{OperationData, AskedData, Numbers, open_session}
use Rattle.repl_replies.specs.Operations.{session_in, operation_in, close_operation, eval_operation}
use Rattle.repl_replies.specs.Operations.{load_operation, in_session, served_operation, of_origin}
use Rattle.repl_replies.specs.Operations.{operation_or_reply}
use Rattle.repl_replies.specs.Replies.{OriginData, BodyData}
use Rattle.repl_replies.specs.Inside.View.{asked_view, operation_view, reply_view}
use Rattle.repl_replies.specs.declared.names.OperationName.TheVariants as names
use Rattle.repl_replies.specs.declared.names.OperationName.{OperationName}
use Rattle.repl_replies.specs.declared.operation.Asked.{Asked}
use Rattle.repl_replies.specs.declared.reply.Reply.{Reply}

ok-same : {T E : Type 0} (x y : T) → ◌≡◌ {A = Result T E} (Ok x) (Ok y) → x ≡ y
ok-same x y e = cc

not-ok : {T E : Type 0} (x : T) (e : E) → ◌≡◌ {A = Result T E} (Err e) (Ok x) → ⊥
not-ok x e h = cc

some-same : (n m : ℕ) → Some n ≡ Some m → n ≡ m
some-same n m e = cc

opened-names : (number_of : Numbers) (text : List ℕ) (o : Option ℕ) (session : Option ℕ) (n : ℕ)
    → number_of text ≡ o → open_session o ≡ Ok session → session ≡ Some n → IsNamed number_of n
opened-names number_of text None session n is e names = absurd (not-ok _ _ e)
opened-names number_of text (Some m) session n is e names = (text, is ∙ ok-same (Some m) session e ∙ names)

session-names : (number_of : Numbers) (id : Option Tree) (session : Option ℕ) (n : ℕ)
    → session_in number_of id ≡ Ok session → session ≡ Some n → IsNamed number_of n
session-names number_of None session n e names =
    let none : None ≡ Some n = ok-same None session e ∙ names in
    absurd (cc)
session-names number_of (Some id) session n e names = by (as_string id) e
  where
    by : (o : Option (List ℕ)) → open_session (option_and_then number_of o) ≡ Ok session → IsNamed number_of n
    by None h = absurd (not-ok _ _ h)
    by (Some text) h = opened-names number_of text (number_of text) session n refl h names

close_operation-names : (session : Option ℕ) (op : OperationData) → close_operation session ≡ Ok op → session_of op ≡ session
close_operation-names None op e = absurd (not-ok _ _ e)
close_operation-names (Some n) op e = sym (ap session_of (ok-same (operations.close n) op e))

eval_operation-names : (session : Option ℕ) (ns : Option Tree) (o : Option (List ℕ)) (op : OperationData)
    → eval_operation session ns o ≡ Ok op → session_of op ≡ session
eval_operation-names session ns None op e = absurd (not-ok _ _ e)
eval_operation-names session ns (Some text) op e = sym (ap session_of (ok-same (operations.eval session text ns) op e))

load_operation-names : (session : Option ℕ) (o : Option (List ℕ)) (op : OperationData)
    → load_operation session o ≡ Ok op → session_of op ≡ session
load_operation-names session None op e = absurd (not-ok _ _ e)
load_operation-names session (Some text) op e = sym (ap session_of (ok-same (operations.load_file session text) op e))

operation-names : (fields : TreePairs) (name : OperationName) (session : Option ℕ) (op : OperationData)
    → operation_in fields name session ≡ Ok op → session_of op ≡ session
operation-names fields names.Clone session op e = sym (ap session_of (ok-same (operations.clone session) op e))
operation-names fields names.Close session op e = close_operation-names session op e
operation-names fields names.Describe session op e = sym (ap session_of (ok-same (operations.describe session) op e))
operation-names fields names.Eval session op e = eval_operation-names session _ _ op e
operation-names fields names.LoadFile session op e = load_operation-names session _ op e
operation-names fields names.ListSessions session op e = sym (ap session_of (ok-same (operations.list_sessions session) op e))

in-session-names : (number_of : Numbers) (fields : TreePairs) (name : OperationName) (id : Option Tree) (r : Result (Option ℕ) BodyData) (op : OperationData) (n : ℕ)
    → session_in number_of id ≡ r → in_session fields name r ≡ Ok op → session_of op ≡ Some n → IsNamed number_of n
in-session-names number_of fields name id (Err refusal) op n is e names = absurd (not-ok _ _ e)
in-session-names number_of fields name id (Ok session) op n is e names =
    session-names number_of id session n is (sym (operation-names fields name session op e) ∙ names)

served_operation-names : (number_of : Numbers) (fields : TreePairs) (op : Option Tree) (name : Option OperationName) (id : Option Tree) (it : OperationData) (n : ℕ)
    → served_operation fields op name (session_in number_of id) ≡ Ok it → session_of it ≡ Some n → IsNamed number_of n
served_operation-names number_of fields op None id it n e names = absurd (not-ok _ _ e)
served_operation-names number_of fields op (Some name) id it n e names =
    in-session-names number_of fields name id (session_in number_of id) it n refl e names

of-origin-names : (number_of : Numbers) (origin : OriginData) (r : Result OperationData BodyData) (a : AskedData) (n : ℕ)
    → ((it : OperationData) → r ≡ Ok it → session_of it ≡ Some n → IsNamed number_of n)
    → of_origin origin r ≡ Ok a → session_of a.operation ≡ Some n → IsNamed number_of n
of-origin-names number_of origin (Err refusal) a n by e names = absurd (not-ok _ _ e)
of-origin-names number_of origin (Ok it) a n by e names =
    by it refl (ap (λ (x : AskedData). session_of x.operation) (ok-same _ a e) ∙ names)

operation_or_reply-names : (number_of : Numbers) (fields : TreePairs) (a : AskedData) (n : ℕ)
    → operation_or_reply number_of fields ≡ Ok a → session_of a.operation ≡ Some n → IsNamed number_of n
unfolding operation_or_reply
operation_or_reply-names number_of fields a n e names =
    of-origin-names number_of _ _ a n (λ it is so. served_operation-names number_of fields _ _ _ it n is so) e names

pub operation_or_reply-view-names : (number_of : Numbers) (fields : TreePairs) (r : Result Asked Reply)
    → result_map_both asked_view reply_view r ≡ operation_or_reply number_of fields
    → IfOk r (λ a. ForSome (session_of (operation_view a.operation)) (IsNamed number_of))
operation_or_reply-view-names number_of fields (Err reply) is = tt
operation_or_reply-view-names number_of fields (Ok a) is = λ n names. operation_or_reply-names number_of fields (asked_view a) n (sym is) names
