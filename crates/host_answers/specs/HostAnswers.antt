-- The answer of each call in the one form that a host gets: document 01's number, or 0 done, 128 malformed, 129 ours, 130 no such row or envelope here, 131 no envelope
-- made; and how many replies, actions, rows or bytes there are, or for how many rows the tombstones were searched.
-- Assumes nothing.
use Rattle.std.specs.Prelude.{ℕ, List, replicate, Result, Ok, Err, Option, Some, None}
use Rattle.std.proofs.Math.ListN as lists
use Rattle.courier_core.specs.Core.{refusal_number}
use Rattle.courier_core.specs.declared.Refusal.{Refusal}
use Rattle.rows.specs.declared.Own.{Own}
use Rattle.rows.specs.Rows.{own_bytes}
use Rattle.state.specs.declared.Held.{Held}
use Rattle.state.specs.declared.Held.TheVariants as held
use Rattle.state.specs.declared.Carried.{Carried}
use Rattle.state.specs.declared.Tombstone.{Tombstone}
use Rattle.envelope.specs.declared.Answer.{Answer as EnvelopeSaid}
use Rattle.envelope.specs.declared.Answer.TheVariants as envelope_said
use Rattle.inventory.specs.declared.Said.{Said as InventorySaid}
use Rattle.inventory.specs.declared.Said.TheVariants as inventory_said
use Rattle.answers.specs.declared.Said.{Said as TombSaid}
use Rattle.answers.specs.declared.Said.TheVariants as tomb_said
use Rattle.host_answers.specs.declared.Answer.{Answer}
use Rattle.host_answers.specs.declared.Row.{Row}

abbrev pub answered : (said replies actions len : ℕ) → Answer
answered said replies actions len = record {
  contact = 0;
  replies = replies;
  actions = actions;
  length = len;
  idx = 0;
  generation = 0;
  said = said;
}

abbrev pub refusing : Refusal → Answer
refusing why = answered (refusal_number why) 0 0 0

-- contact, setting, clock, fresh exchange, load: nothing more to say
abbrev pub done_answer : Result Unit Refusal → Answer
done_answer (Ok u) = answered 0 0 0 0
done_answer (Err why) = refusing why

-- custody code, stored tombstone, maintenance: so many actions
abbrev pub acted_answer : Result ℕ Refusal → Answer
acted_answer (Ok actions) = answered 0 0 actions 0
acted_answer (Err why) = refusing why

-- inventory of ours, window, save, page: so many prefixes, rows or bytes
abbrev pub wrote_answer : Result ℕ Refusal → Answer
wrote_answer (Ok count) = answered 0 0 0 count
wrote_answer (Err why) = refusing why

abbrev pub envelope_answer : Result EnvelopeSaid Refusal → Answer
envelope_answer (Ok (envelope_said.Ours contact generation idx)) = record {
  contact = contact.0;
  replies = 0;
  actions = 0;
  length = 0;
  idx = idx;
  generation = generation;
  said = 129;
}
envelope_answer (Ok (envelope_said.Done replies actions)) = answered 0 replies actions 0
envelope_answer (Err why) = refusing why

-- a fetch: an envelope, which has so many replies and whose ciphertext so many bytes, or none
abbrev pub fetched_answer : (replies : ℕ) → Result (Option (List ℕ)) Refusal → Answer
fetched_answer replies (Ok (Some ct)) = answered 0 replies 0 (lists.length ct)
fetched_answer replies (Ok None) = answered 130 0 0 0
fetched_answer replies (Err why) = refusing why

-- own envelope: the answer, and the bytes of the row where there is one
abbrev pub own_answer : Result (Option Own) Refusal → Answer
own_answer (Ok (Some row)) = answered 0 0 0 0
own_answer (Ok None) = answered 131 0 0 0
own_answer (Err why) = refusing why

abbrev pub own_row_area : List ℕ → Result (Option Own) Refusal → List ℕ
own_row_area area (Ok (Some row)) = own_bytes row
own_row_area area (Ok None) = area
own_row_area area (Err why) = area

abbrev pub own_answers : List ℕ → Result (Option Own) Refusal → Answer × List ℕ
own_answers area made = (own_answer made, own_row_area area made)

abbrev pub inventory_answer : Result InventorySaid Refusal → Answer
inventory_answer (Ok (inventory_said.Done replies searched)) = answered 0 replies 0 searched
inventory_answer (Ok inventory_said.Malformed) = answered 128 0 0 0
inventory_answer (Err why) = refusing why

-- a tomb or a report, which has so many replies where it is done
abbrev pub tomb_answer : ℕ → Result TombSaid Refusal → Answer
tomb_answer replies (Ok (tomb_said.Done actions)) = answered 0 replies actions 0
tomb_answer replies (Ok tomb_said.Malformed) = answered 128 0 0 0
tomb_answer replies (Err why) = refusing why

abbrev pub blob_answer : Result (Option ℕ) Refusal → Answer
blob_answer (Ok (Some len)) = answered 0 0 0 len
blob_answer (Ok None) = answered 130 0 0 0
blob_answer (Err why) = refusing why

-- ---- a held row that was read: kind 0 none, 1 carried, 2 a tombstone

abbrev pub carried_row : Carried → Row
carried_row r = record {
  depositor = r.depositor.0;
  expiry_min = r.header.expiry_min;
  tag = r.header.tag;
  second = r.header.c;
  copies = r.header.copies;
  kind = 1;
}

abbrev pub tombstone_row : Tombstone → Row
tombstone_row t = record { depositor = 0; expiry_min = t.expiry_min; tag = t.tag; second = t.s; copies = 0; kind = 2 }

abbrev pub no_row : Row
no_row = record { depositor = 0; expiry_min = 0; tag = replicate 16 0; second = replicate 16 0; copies = 0; kind = 0 }

abbrev pub row_of : Option Held → Row
row_of None = no_row
row_of (Some (held.Carried r)) = carried_row r
row_of (Some (held.Tombstone t)) = tombstone_row t
