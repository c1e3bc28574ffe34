-- What an exchange has offered and had no code for yet, read off the calls and their replies.
-- Assumes nothing.
use Rattle.std.specs.Prelude.{ℕ, Bool, true, false, cond, not, ◌&&◌, List, [], ◌∷◌, length, ◌==◌}
use Rattle.octets.specs.Bytes.{same_bytes}
use Rattle.courier.specs.Courier.{header_of}
use Rattle.rows.specs.declared.Reply.{Reply}
use Rattle.model.specs.Calls.{Answer, Result, done_with, nothing_more, is_refused}
use Rattle.model.specs.Step.{Post, Lent, answer_to, after}
use Rattle.history.specs.Life.{Role, code_for, contact_says, opens_exchange, lists_prefixes, other, role}

-- Is the call neither refused nor malformed, with all that it says in its replies? A word of the theorem's own: the model's of the same answers is another definition.
abbrev pub is_done : Answer → Bool
is_done (done_with nothing_more) = true
is_done _ = false

-- the copies in the last envelope of a tag among replies, n if there is none
abbrev pub last_sent : List ℕ → ℕ → List Reply → ℕ
last_sent tag n [] = n
last_sent tag n (r ∷ rs) = last_sent tag (cond (r.kind == 1 && same_bytes (header_of r.body).tag tag) (header_of r.body).copies n) rs

-- The copies of a tag that an exchange has offered, after a call with it; n before it. The empty inventory offers what its replies say, a
-- custody code clears its tag whatever the code, and a fresh exchange has offered nothing.
abbrev pub offered_by : List ℕ → ℕ → Role → Result → ℕ
offered_by tag n (code_for t code) o = cond (not (is_refused o.answer) && same_bytes t tag) 0 n
offered_by tag n (contact_says id v) o = n
offered_by tag n opens_exchange o = cond (is_refused o.answer) n 0
offered_by tag n (lists_prefixes listed) o = cond (is_done o.answer && length listed == 0) (last_sent tag 0 o.replies) n
offered_by tag n other o = n

-- after a list of calls, for the exchange of one session
abbrev pub offered_after : (session : ℕ) (tag : List ℕ) → ℕ → Post → List Lent → ℕ
offered_after session tag n p [] = n
offered_after session tag n p (l ∷ ls) =
    offered_after session tag (cond (l.session == session) (offered_by tag n (role l.call) (answer_to p l)) n) (after p l) ls
