-- The rows and their bytes: the fields in the order declared, numbers with the highest byte first, no padding.
-- Assumes nothing.
use Rattle.std.specs.Prelude.{ℕ, List, ◌++◌}
use Rattle.octets.specs.Bytes.{part, num, be}
use Rattle.table.specs.Codec.{Codec}
use Rattle.rows.specs.declared.Carried.{Carried}
use Rattle.rows.specs.declared.Own.{Own}
use Rattle.rows.specs.declared.Tombstone.{Tombstone}
use Rattle.rows.specs.declared.Contact.{Contact}
use Rattle.rows.specs.declared.BadTag.{BadTag}
use Rattle.rows.specs.declared.Offer.{Offer}
use Rattle.rows.specs.declared.Reply.{Reply}
use Rattle.rows.specs.declared.Action.{Action}
use Rattle.rows.specs.declared.Reachable.{Reachable}

-- ---- how many bytes a row has

abbrev pub carried_width : ℕ
carried_width = 57

abbrev pub own_width : ℕ
own_width = 54

abbrev pub tombstone_width : ℕ
tombstone_width = 44

abbrev pub contact_width : ℕ
contact_width = 9

abbrev pub bad_tag_width : ℕ
bad_tag_width = 24

abbrev pub offer_width : ℕ
offer_width = 17

abbrev pub reply_width : ℕ
reply_width = 40

abbrev pub action_width : ℕ
action_width = 13

abbrev pub reachable_width : ℕ
reachable_width = 30

-- a prefix is the first bytes of a tag
abbrev pub prefix_width : ℕ
prefix_width = 8

-- a reply's bytes behind its kind and cell
abbrev pub reply_body : ℕ
reply_body = 37

-- ---- the rows

-- one carried row: slot, depositor, tag, commitment, expiry and copies, and the cell and length of its ciphertext
unfoldable pub carried_of : List ℕ → Carried
carried_of b = record {
  slot = num (part b 0 8);
  depositor = record { 0 = num (part b 8 8) };
  tag = part b 16 16;
  c = part b 32 16;
  expiry_min = num (part b 48 4);
  copies = num (part b 52 1);
  len = num (part b 53 2);
  cell = num (part b 55 2);
}

unfoldable pub carried_bytes : Carried → List ℕ
carried_bytes r =
    be 8 r.slot ++ be 8 r.depositor.0 ++ r.tag ++ r.c ++ be 4 r.expiry_min ++ be 1 r.copies ++ be 2 r.len ++ be 2 r.cell

abbrev pub carried_codec : Codec Carried
carried_codec = record { width = carried_width; decode = carried_of; encode = carried_bytes }

-- one own row: contact, message number, tag, secret, expiry, copies, renewed, and the cell and length of its ciphertext
unfoldable pub own_of : List ℕ → Own
own_of b = record {
  contact = record { 0 = num (part b 0 8) };
  msgno = num (part b 8 4);
  tag = part b 12 16;
  s = part b 28 16;
  expiry_min = num (part b 44 4);
  copies = num (part b 48 1);
  renewed = num (part b 49 1);
  len = num (part b 50 2);
  cell = num (part b 52 2);
}

unfoldable pub own_bytes : Own → List ℕ
own_bytes r =
    be 8 r.contact.0 ++ be 4 r.msgno ++ r.tag ++ r.s ++ be 4 r.expiry_min ++ be 1 r.copies ++ be 1 r.renewed ++ be 2 r.len
    ++ be 2 r.cell

abbrev pub own_codec : Codec Own
own_codec = record { width = own_width; decode = own_of; encode = own_bytes }

-- tombstone rows of 44 bytes
unfoldable pub tombstone_of : List ℕ → Tombstone
tombstone_of b = record { slot = num (part b 0 8); tag = part b 8 16; s = part b 24 16; expiry_min = num (part b 40 4) }

unfoldable pub tombstone_bytes : Tombstone → List ℕ
tombstone_bytes r = be 8 r.slot ++ r.tag ++ r.s ++ be 4 r.expiry_min

abbrev pub tombstone_codec : Codec Tombstone
tombstone_codec = record { width = tombstone_width; decode = tombstone_of; encode = tombstone_bytes }

-- contact (8), verification (1: 0 un-, 1 verified, 2 compromised)
unfoldable pub contact_of : List ℕ → Contact
contact_of b = record { id = record { 0 = num (part b 0 8) }; verification = num (part b 8 1) }

unfoldable pub contact_bytes : Contact → List ℕ
contact_bytes r = be 8 r.id.0 ++ be 1 r.verification

abbrev pub contact_codec : Codec Contact
contact_codec = record { width = contact_width; decode = contact_of; encode = contact_bytes }

-- bad-tag rows of 24: the peer for which the tag is bad, and the tag
unfoldable pub bad_tag_of : List ℕ → BadTag
bad_tag_of b = record { peer = record { 0 = num (part b 0 8) }; tag = part b 8 16 }

unfoldable pub bad_tag_bytes : BadTag → List ℕ
bad_tag_bytes r = be 8 r.peer.0 ++ r.tag

abbrev pub bad_tag_codec : Codec BadTag
bad_tag_codec = record { width = bad_tag_width; decode = bad_tag_of; encode = bad_tag_bytes }

-- offers of 17: the tag, and the copies handed
unfoldable pub offer_of : List ℕ → Offer
offer_of b = record { tag = part b 0 16; copies = num (part b 16 1) }

unfoldable pub offer_bytes : Offer → List ℕ
offer_bytes r = r.tag ++ be 1 r.copies

abbrev pub offer_codec : Codec Offer
offer_codec = record { width = offer_width; decode = offer_of; encode = offer_bytes }

-- replies of 40: kind 1, as 0 fetch, 1 envelope, 2 custody, 3 tomb; an envelope's cell 2; body 37
unfoldable pub reply_of : List ℕ → Reply
reply_of b = record { kind = num (part b 0 1); cell = num (part b 1 2); body = part b 3 reply_body }

unfoldable pub reply_bytes : Reply → List ℕ
reply_bytes r = be 1 r.kind ++ be 2 r.cell ++ r.body

abbrev pub reply_codec : Codec Reply
reply_codec = record { width = reply_width; decode = reply_of; encode = reply_bytes }

-- actions of 13: kind 1, as 0 put, 1 delete, 2 own put; slot or contact 8; message number 4, 0 if held
unfoldable pub action_of : List ℕ → Action
action_of b = record { kind = num (part b 0 1); number = num (part b 1 8); msgno = num (part b 9 4) }

unfoldable pub action_bytes : Action → List ℕ
action_bytes r = be 1 r.kind ++ be 8 r.number ++ be 4 r.msgno

abbrev pub action_codec : Codec Action
action_codec = record { width = action_width; decode = action_of; encode = action_bytes }

-- window rows of 30: contact 8, dir 1, generation 1, index 4, tag 16
unfoldable pub reachable_of : List ℕ → Reachable
reachable_of b = record {
  contact = record { 0 = num (part b 0 8) };
  dir = num (part b 8 1);
  generation = num (part b 9 1);
  idx = num (part b 10 4);
  tag = part b 14 16;
}

unfoldable pub reachable_bytes : Reachable → List ℕ
reachable_bytes r = be 8 r.contact.0 ++ be 1 r.dir ++ be 1 r.generation ++ be 4 r.idx ++ r.tag

abbrev pub reachable_codec : Codec Reachable
reachable_codec = record { width = reachable_width; decode = reachable_of; encode = reachable_bytes }
