-- What the types of a row's fields say of it: a number fits its bytes, a run has its length, and its elements are bytes.
-- Assumes nothing.
use Rattle.std.specs.Prelude.{◌≡◌, ℕ, ◌^◌, ◌<◌, List, length}
use Rattle.octets.specs.Bytes.{Bytes}
use Rattle.rows.specs.declared.Carried.{Carried}
use Rattle.rows.specs.declared.Own.{Own}
use Rattle.rows.specs.declared.Tombstone.{Tombstone}
use Rattle.rows.specs.declared.Contact.{Contact}
use Rattle.rows.specs.declared.BadTag.{BadTag}
use Rattle.rows.specs.declared.Offer.{Offer}
use Rattle.rows.specs.declared.Reply.{Reply}
use Rattle.rows.specs.declared.Action.{Action}
use Rattle.rows.specs.declared.Reachable.{Reachable}
use Rattle.rows.specs.Rows.{reply_body}

-- a run of n bytes
pub record Run (n : ℕ) (b : List ℕ) : Type 0 where
  pub size : length b ≡ n
  pub bytes : Bytes b

pub record ProperCarried (r : Carried) : Type 0 where
  pub slot : r.slot < 2 ^ 64
  pub depositor : r.depositor.0 < 2 ^ 64
  pub tag : Run 16 r.tag
  pub c : Run 16 r.c
  pub expiry_min : r.expiry_min < 2 ^ 32
  pub copies : r.copies < 2 ^ 8
  pub len : r.len < 2 ^ 16
  pub cell : r.cell < 2 ^ 16

pub record ProperOwn (r : Own) : Type 0 where
  pub contact : r.contact.0 < 2 ^ 64
  pub msgno : r.msgno < 2 ^ 32
  pub tag : Run 16 r.tag
  pub s : Run 16 r.s
  pub expiry_min : r.expiry_min < 2 ^ 32
  pub copies : r.copies < 2 ^ 8
  pub renewed : r.renewed < 2 ^ 8
  pub len : r.len < 2 ^ 16
  pub cell : r.cell < 2 ^ 16

pub record ProperTombstone (r : Tombstone) : Type 0 where
  pub slot : r.slot < 2 ^ 64
  pub tag : Run 16 r.tag
  pub s : Run 16 r.s
  pub expiry_min : r.expiry_min < 2 ^ 32

pub record ProperContact (r : Contact) : Type 0 where
  pub id : r.id.0 < 2 ^ 64
  pub verification : r.verification < 2 ^ 8

pub record ProperBadTag (r : BadTag) : Type 0 where
  pub peer : r.peer.0 < 2 ^ 64
  pub tag : Run 16 r.tag

pub record ProperOffer (r : Offer) : Type 0 where
  pub tag : Run 16 r.tag
  pub copies : r.copies < 2 ^ 8

pub record ProperReply (r : Reply) : Type 0 where
  pub kind : r.kind < 2 ^ 8
  pub cell : r.cell < 2 ^ 16
  pub body : Run reply_body r.body

pub record ProperAction (r : Action) : Type 0 where
  pub kind : r.kind < 2 ^ 8
  pub number : r.number < 2 ^ 64
  pub msgno : r.msgno < 2 ^ 32

pub record ProperReachable (r : Reachable) : Type 0 where
  pub contact : r.contact.0 < 2 ^ 64
  pub dir : r.dir < 2 ^ 8
  pub generation : r.generation < 2 ^ 8
  pub idx : r.idx < 2 ^ 32
  pub tag : Run 16 r.tag
