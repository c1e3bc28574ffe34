-- Demand 3: what is claimed of every list of calls from empty holdings.
-- Assumes nothing.
use Rattle.std.specs.Prelude.{◌≡◌, ℕ, ◌+◌, ◌<◌, ◌≤◌, min, false, List, [], ◌∷◌, ◌++◌, length, ◌≢◌, slice_index_or}
use Rattle.courier_core.specs.declared.ContactId.{ContactId}
use Rattle.courier_core.specs.declared.Refusal.TheVariants as refusal
use Rattle.table.specs.Lists.{All}
use Rattle.courier.specs.declared.Header.{Header}
use Rattle.courier.specs.declared.Custody.TheVariants as custody
use Rattle.rows.specs.declared.Contact.{Contact}
use Rattle.rows.specs.declared.Carried.{Carried}
use Rattle.model.specs.State.{Session, nobody, no_session}
use Rattle.model.specs.Calls
use Rattle.model.specs.Calls.{put_courier, custody_reply, is_refused}
use Rattle.model.specs.Contacts.{minute_of, end_of}
use Rattle.model.specs.Cells
use Rattle.model.specs.Cells.{cell_count}
use Rattle.model.specs.Custody.{deposited}
use Rattle.model.specs.Step.{Post, Lent, step, state_for, answer_to, after, run}
use Rattle.model.specs.Areas.{PostAreas, view, view_post, areas_for, run_areas}
use Rattle.history.specs.Order.{Sorted, ◌∈◌, HeldOrder, OwnOrder}
use Rattle.history.specs.Life.{offered_copies, Later, Leaves, Holds, Lives}
use Rattle.history.specs.Offers.{offered_after}
use Rattle.history.specs.Share.{verified_after, ever_verified, quota_of, others_with_rows, Reaches, Owed}
use Rattle.history.specs.Limits.{max_carried, max_cells, envelope_header, most_held_bytes, max_per_verified, max_per_depositor, most_others, max_tombstones}

-- No row, contact or open exchange. R, the cells of both kinds, the bad-tag rows, the clock, the setting and the sizes of the exchanges'
-- areas are any.
pub record Empty (p : Post) : Type 0 where
  pub contacts : p.state.contacts ≡ []
  pub own : p.state.own ≡ []
  pub carried : p.state.carried ≡ []
  pub tombstones : p.state.tombstones ≡ []
  pub bad_tags : p.state.bad_tags ≡ []
  pub next_slot : p.state.next_slot ≡ 0
  pub others : p.state.sessions ≡ []
  pub sessions : All (λ (e : Session). e.exchange ≡ nobody) p.sessions

-- the bytes of headers and ciphertexts
abbrev pub held_bytes : List ℕ → List Carried → ℕ
held_bytes cells [] = 0
held_bytes cells (r ∷ rs) = envelope_header + length (Cells.ciphertext cells r.cell r.len) + held_bytes cells rs

-- an envelope call that is answered, by its own call, with code 0
pub record Deposit (p : Post) (l : Lent) : Type 0 where
  pub replies : ℕ
  pub actions : ℕ
  pub window : List ℕ
  pub peer : ContactId
  pub head : Header
  pub ct : List ℕ
  pub call : l.call ≡ Calls.envelope replies actions window peer head ct
  pub code0 : (answer_to p l).replies ≡ custody_reply head.tag custody.Accepted ∷ []

-- the row that it gives: slot put, depositor its peer, tag, commitment, ciphertext, copies and expiry as under Accepted
pub record Given (p : Post) (l : Lent) (d : Deposit p l) (r : Carried) : Type 0 where
  pub put : (answer_to p l).actions ≡ put_courier r.slot ∷ []
  pub depositor : r.depositor ≡ d.peer
  pub tag : r.tag ≡ d.head.tag
  pub commitment : r.c ≡ d.head.c
  pub ciphertext : Holds (after p l) r d.ct
  pub copies : r.copies ≡ min d.head.copies (state_for p l).courier.copies
  pub expiry : r.expiry_min ≡ min d.head.expiry_min (end_of (state_for p l))

-- no row has this slot, at the start of a list of calls or after any of them
abbrev pub Never : ℕ → Post → List Lent → Type 0
Never slot p ls = (before rest : List Lent) → ls ≡ before ++ rest → (q : Carried) → q ∈ (run p before).state.carried → q.slot ≢ slot

-- what becomes of a row r with ciphertext ct: it lives on to the end, or it lives up to a call by which it leaves, and no row has its slot again
pub data Fate (p : Post) (r : Carried) (ct : List ℕ) (ls : List Lent) : Type 0 where
  held : (e : Carried) → Lives ct p r ls e → Fate p r ct ls
  left : (before : List Lent) (l : Lent) (rest : List Lent) (e : Carried) → ls ≡ before ++ (l ∷ rest) → Lives ct p r before e
      → Leaves (state_for (run p before) l) (answer_to (run p before) l) e l.call → Never r.slot (after (run p before) l) rest → Fate p r ct ls

-- the whole life of the envelope of a call: the row that it gives, and what becomes of it over the rest of the list
pub record Life (p : Post) (l : Lent) (d : Deposit p l) (rest : List Lent) : Type 0 where
  pub row : Carried
  pub given : Given p l d row
  pub fate : Fate (after p l) row d.ct rest

-- a row that is there after a list of calls, and the envelope call of the list since which it has lived
pub record Origin (p : Post) (ls : List Lent) (e : Carried) : Type 0 where
  pub before : List Lent
  pub l : Lent
  pub rest : List Lent
  pub split : ls ≡ before ++ (l ∷ rest)
  pub deposit : Deposit (run p before) l
  pub row : Carried
  pub given : Given (run p before) l deposit row
  pub lives : Lives deposit.ct (after (run p before) l) row rest e

-- Demand 3, of a list of calls from a post.
pub record CustodyHistory (p : Post) (ls : List Lent) : Type 0 where
  -- carried tags differ; there are at most max_carried carried rows, and most_held_bytes header and ciphertext bytes
  pub tags_differ : Sorted (λ (a b : Carried). a.tag ≢ b.tag) (run p ls).state.carried
  pub few : length (run p ls).state.carried ≤ max_carried
  pub light : held_bytes (run p ls).state.carried_cells (run p ls).state.carried ≤ most_held_bytes
  -- no contact has over max_per_verified, nor over max_per_depositor if no contact call on it ever said 1
  pub quota : (id : ContactId) → deposited (run p ls).state.carried id ≤ max_per_verified
  pub quota_unverified : (id : ContactId) → ever_verified id ls ≡ false → deposited (run p ls).state.carried id ≤ max_per_depositor
  -- there are at most max_tombstones tombstones, whatever R is; and with R at that or more no call is refused by number 5 (a load is none of these calls)
  pub tombstones_few : length (run p ls).state.tombstones ≤ max_tombstones
  pub never_5 : max_tombstones ≤ p.state.tombstone_rows → (before : List Lent) (l : Lent) (rest : List Lent) → ls ≡ before ++ (l ∷ rest)
      → (answer_to (run p before) l).answer ≢ Calls.refused refusal.NoTombstoneRow
  -- every envelope call answered with code 0 gave one carried row; it leaves only by maintenance at or after its expiry or by a tomb whose
  -- secret hashes to its commitment
  pub life : (before : List Lent) (l : Lent) (rest : List Lent) → ls ≡ before ++ (l ∷ rest) → (d : Deposit (run p before) l) → Life (run p before) l d rest
  -- there is no other carried row
  pub origin : (e : Carried) → e ∈ (run p ls).state.carried → Origin p ls e
  -- while it lives its copies never rise, and its other fields stay
  pub fields_stay : (q : Post) (calls : List Lent) (r e : Carried) (ct : List ℕ) → Lives ct q r calls e → Later r e
  -- Its copies fall by what its exchange offered of its tag: that is read off the replies that offered it and the codes since.
  pub offers : (before rest : List Lent) → ls ≡ before ++ rest → (session : ℕ) (tag : List ℕ)
      → offered_copies (slice_index_or (run p before).sessions session no_session).exchange.offered tag ≡ offered_after session tag 0 p before
  -- a maintenance not refused takes every carried row with expiry ≤ its minute
  pub swept : (before : List Lent) (l : Lent) (rest : List Lent) (actions : ℕ) → ls ≡ before ++ (l ∷ rest) → l.call ≡ Calls.maintenance actions
      → is_refused (answer_to (run p before) l).answer ≡ false → (r : Carried) → r ∈ (after (run p before) l).state.carried
      → minute_of (state_for (run p before) l) < r.expiry_min
  -- If next an envelope from P reaches the test Full while at most most_others contacts other than P have carried rows, P gets its share; no
  -- contact is counted twice. This sentence alone needs max_cells cells.
  pub contacts_differ : Sorted (λ (a b : Contact). a.id.0 ≢ b.id.0) (run p ls).state.contacts
  pub share : cell_count (length p.state.carried_cells) ≡ max_cells
      → (session replies actions : ℕ) (window : List ℕ) (peer : ContactId) (head : Header) (ct : List ℕ)
      → let next : Lent = record { session = session; call = Calls.envelope replies actions window peer head ct } in
      length head.tag ≡ 16 → Reaches (state_for (run p ls) next) replies actions window peer head (length ct) → others_with_rows (run p ls).state peer ≤ most_others
      → Owed (state_for (run p ls) next) peer head (quota_of (verified_after peer ls)) (answer_to (run p ls) next)
  -- the tables stand in the order in which the definitions read them, and a cell is named by at most one row
  pub held_order : HeldOrder (run p ls).state.carried (run p ls).state.tombstones (run p ls).state.next_slot (run p ls).state.carried_cells
  pub own_order : OwnOrder (run p ls).state.contacts (run p ls).state.own (run p ls).state.own_cells

-- Demand 3 of a run on areas: what they hold at the start and after each call, seen as rows, is what the model's run has; each call on them
-- answers what its own there does; and of that run demand 3 holds.
pub record CustodyOnAreas (p : PostAreas) (ls : List Lent) : Type 0 where
  pub seen : (before rest : List Lent) → ls ≡ before ++ rest → view_post (run_areas p before) ≡ run (view_post p) before
  pub answered : (before : List Lent) (l : Lent) (rest : List Lent) → ls ≡ before ++ (l ∷ rest)
      → step (view (areas_for (run_areas p before) l)) l.call ≡ answer_to (run (view_post p) before) l
  pub history : CustodyHistory (view_post p) ls
