-- The laws of the nine codecs. The argument is `laws` of Shapes, once; a kind gives what it alone has: its shape, its names, and which field is which.
-- Assumes nothing.
use Rattle.std.proofs.Common.{refl, arith}
use Rattle.table.specs.Codec.{CodecLaws}
use Rattle.rows.specs.Proper.{ProperCarried, ProperOwn, ProperTombstone, ProperContact, ProperBadTag, ProperOffer, ProperReply, ProperAction, ProperReachable}
use Rattle.rows.specs.Rows.{carried_of, carried_bytes, carried_codec, own_of, own_bytes, own_codec, tombstone_of, tombstone_bytes, tombstone_codec, contact_of, contact_bytes, contact_codec, bad_tag_of, bad_tag_bytes, bad_tag_codec, offer_of, offer_bytes, offer_codec, reply_of, reply_bytes, reply_codec, action_of, action_bytes, action_codec, reachable_of, reachable_bytes, reachable_codec}
use Rattle.rows.specs.Shapes.{number, run, ◌then◌, Shaped, laws}

pub carried_shaped : Shaped carried_codec ProperCarried (number 8 then number 8 then run 16 then run 16 then number 4 then number 1 then number 2 then number 2)
unfolding carried_of carried_bytes
carried_shaped = record {
  values = λ r. (((((((r.slot, r.depositor.0), r.tag), r.c), r.expiry_min), r.copies), r.len), r.cell);
  row = λ (((((((slot, depositor), tag), c), expiry), copies), len), cell). record { slot = slot; depositor = record { 0 = depositor }; tag = tag; c = c; expiry_min = expiry; copies = copies; len = len; cell = cell };
  fits = λ r p. (((((((p.slot, p.depositor), p.tag), p.c), p.expiry_min), p.copies), p.len), p.cell);
  proper = λ v (((((((slot, depositor), tag), c), expiry), copies), len), cell). record { slot = slot; depositor = depositor; tag = tag; c = c; expiry_min = expiry; copies = copies; len = len; cell = cell };
  same = (λ r. refl, λ v. refl);
  is = refl;
  wide = omega arith;
}

pub carried_laws : CodecLaws carried_codec ProperCarried
carried_laws = laws carried_shaped

pub own_shaped : Shaped own_codec ProperOwn (number 8 then number 4 then run 16 then run 16 then number 4 then number 1 then number 1 then number 2 then number 2)
unfolding own_of own_bytes
own_shaped = record {
  values = λ r. ((((((((r.contact.0, r.msgno), r.tag), r.s), r.expiry_min), r.copies), r.renewed), r.len), r.cell);
  row = λ ((((((((contact, msgno), tag), s), expiry), copies), renewed), len), cell). record { contact = record { 0 = contact }; msgno = msgno; tag = tag; s = s; expiry_min = expiry; copies = copies; renewed = renewed; len = len; cell = cell };
  fits = λ r p. ((((((((p.contact, p.msgno), p.tag), p.s), p.expiry_min), p.copies), p.renewed), p.len), p.cell);
  proper = λ v ((((((((contact, msgno), tag), s), expiry), copies), renewed), len), cell). record { contact = contact; msgno = msgno; tag = tag; s = s; expiry_min = expiry; copies = copies; renewed = renewed; len = len; cell = cell };
  same = (λ r. refl, λ v. refl);
  is = refl;
  wide = omega arith;
}

pub own_laws : CodecLaws own_codec ProperOwn
own_laws = laws own_shaped

pub tombstone_shaped : Shaped tombstone_codec ProperTombstone (number 8 then run 16 then run 16 then number 4)
unfolding tombstone_of tombstone_bytes
tombstone_shaped = record {
  values = λ r. (((r.slot, r.tag), r.s), r.expiry_min);
  row = λ (((slot, tag), s), expiry). record { slot = slot; tag = tag; s = s; expiry_min = expiry };
  fits = λ r p. (((p.slot, p.tag), p.s), p.expiry_min);
  proper = λ v (((slot, tag), s), expiry). record { slot = slot; tag = tag; s = s; expiry_min = expiry };
  same = (λ r. refl, λ v. refl);
  is = refl;
  wide = omega arith;
}

pub tombstone_laws : CodecLaws tombstone_codec ProperTombstone
tombstone_laws = laws tombstone_shaped

pub contact_shaped : Shaped contact_codec ProperContact (number 8 then number 1)
unfolding contact_of contact_bytes
contact_shaped = record {
  values = λ r. (r.id.0, r.verification);
  row = λ (id, verification). record { id = record { 0 = id }; verification = verification };
  fits = λ r p. (p.id, p.verification);
  proper = λ v (id, verification). record { id = id; verification = verification };
  same = (λ r. refl, λ v. refl);
  is = refl;
  wide = omega arith;
}

pub contact_laws : CodecLaws contact_codec ProperContact
contact_laws = laws contact_shaped

pub bad_tag_shaped : Shaped bad_tag_codec ProperBadTag (number 8 then run 16)
unfolding bad_tag_of bad_tag_bytes
bad_tag_shaped = record {
  values = λ r. (r.peer.0, r.tag);
  row = λ (peer, tag). record { peer = record { 0 = peer }; tag = tag };
  fits = λ r p. (p.peer, p.tag);
  proper = λ v (peer, tag). record { peer = peer; tag = tag };
  same = (λ r. refl, λ v. refl);
  is = refl;
  wide = omega arith;
}

pub bad_tag_laws : CodecLaws bad_tag_codec ProperBadTag
bad_tag_laws = laws bad_tag_shaped

pub offer_shaped : Shaped offer_codec ProperOffer (run 16 then number 1)
unfolding offer_of offer_bytes
offer_shaped = record {
  values = λ r. (r.tag, r.copies);
  row = λ (tag, copies). record { tag = tag; copies = copies };
  fits = λ r p. (p.tag, p.copies);
  proper = λ v (tag, copies). record { tag = tag; copies = copies };
  same = (λ r. refl, λ v. refl);
  is = refl;
  wide = omega arith;
}

pub offer_laws : CodecLaws offer_codec ProperOffer
offer_laws = laws offer_shaped

pub reply_shaped : Shaped reply_codec ProperReply (number 1 then number 2 then run 37)
unfolding reply_of reply_bytes
reply_shaped = record {
  values = λ r. ((r.kind, r.cell), r.body);
  row = λ ((kind, cell), body). record { kind = kind; cell = cell; body = body };
  fits = λ r p. ((p.kind, p.cell), p.body);
  proper = λ v ((kind, cell), body). record { kind = kind; cell = cell; body = body };
  same = (λ r. refl, λ v. refl);
  is = refl;
  wide = omega arith;
}

pub reply_laws : CodecLaws reply_codec ProperReply
reply_laws = laws reply_shaped

pub action_shaped : Shaped action_codec ProperAction (number 1 then number 8 then number 4)
unfolding action_of action_bytes
action_shaped = record {
  values = λ r. ((r.kind, r.number), r.msgno);
  row = λ ((kind, id), msgno). record { kind = kind; number = id; msgno = msgno };
  fits = λ r p. ((p.kind, p.number), p.msgno);
  proper = λ v ((kind, id), msgno). record { kind = kind; number = id; msgno = msgno };
  same = (λ r. refl, λ v. refl);
  is = refl;
  wide = omega arith;
}

pub action_laws : CodecLaws action_codec ProperAction
action_laws = laws action_shaped

pub reachable_shaped : Shaped reachable_codec ProperReachable (number 8 then number 1 then number 1 then number 4 then run 16)
unfolding reachable_of reachable_bytes
reachable_shaped = record {
  values = λ r. ((((r.contact.0, r.dir), r.generation), r.idx), r.tag);
  row = λ ((((contact, dir), generation), idx), tag). record { contact = record { 0 = contact }; dir = dir; generation = generation; idx = idx; tag = tag };
  fits = λ r p. ((((p.contact, p.dir), p.generation), p.idx), p.tag);
  proper = λ v ((((contact, dir), generation), idx), tag). record { contact = contact; dir = dir; generation = generation; idx = idx; tag = tag };
  same = (λ r. refl, λ v. refl);
  is = refl;
  wide = omega arith;
}

pub reachable_laws : CodecLaws reachable_codec ProperReachable
reachable_laws = laws reachable_shaped
