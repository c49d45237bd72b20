use Rattle.repl_replies.specs.Inside.View.{origin_view}
use Rattle.repl_replies.proofs.Replies.{same_bytes, done_spelled, unknown_session_spelled, no_code_spelled, no_file_spelled, namespace_not_found_spelled, malformed_spelled, closed_spelled, interrupted_spelled}
use Rattle.repl_replies.proofs.reply.Origin.reply_bytes.Goals as goal

pub returns-in-Done : goal.returns-in-Done
returns-in-Done c = rw c.in-Done.is (same_bytes _ (done_spelled (origin_view c.args.self.now)) c.status_bytes.ensures)

pub returns-in-UnknownSession : goal.returns-in-UnknownSession
returns-in-UnknownSession c = rw c.in-UnknownSession.is (same_bytes _ (unknown_session_spelled (origin_view c.args.self.now)) c.status_bytes-in-UnknownSession.ensures)

pub returns-in-NoCode : goal.returns-in-NoCode
returns-in-NoCode c = rw c.in-NoCode.is (same_bytes _ (no_code_spelled (origin_view c.args.self.now)) c.status_bytes-in-NoCode.ensures)

pub returns-in-NoFile : goal.returns-in-NoFile
returns-in-NoFile c = rw c.in-NoFile.is (same_bytes _ (no_file_spelled (origin_view c.args.self.now)) c.status_bytes-in-NoFile.ensures)

pub returns-in-NamespaceNotFound : goal.returns-in-NamespaceNotFound
returns-in-NamespaceNotFound c = rw c.in-NamespaceNotFound.is (same_bytes _ (namespace_not_found_spelled (origin_view c.args.self.now)) c.status_bytes-in-NamespaceNotFound.ensures)

pub returns-in-Malformed : goal.returns-in-Malformed
returns-in-Malformed c = rw c.in-Malformed.is (same_bytes _ (malformed_spelled (origin_view c.args.self.now)) c.status_bytes-in-Malformed.ensures)

pub returns-in-Closed : goal.returns-in-Closed
returns-in-Closed c = rw c.in-Closed.is (same_bytes _ (closed_spelled (origin_view c.args.self.now)) c.status_bytes-in-Closed.ensures)

pub returns-in-Interrupted : goal.returns-in-Interrupted
returns-in-Interrupted c = rw c.in-Interrupted.is (same_bytes _ (interrupted_spelled (origin_view c.args.self.now)) c.status_bytes-in-Interrupted.ensures)
