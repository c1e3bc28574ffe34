pub use Rattle.rows.specs.Laws.{carried_shaped, carried_laws, own_shaped, own_laws, tombstone_shaped, tombstone_laws, contact_shaped, contact_laws, bad_tag_shaped, bad_tag_laws, offer_shaped, offer_laws, reply_shaped, reply_laws, action_shaped, action_laws, reachable_shaped, reachable_laws}
