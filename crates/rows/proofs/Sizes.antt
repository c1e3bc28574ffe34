-- The constants of the code are the sizes and limits of the definitions.
-- Assumes nothing.
use Rattle.std.proofs.Common.{◌≡◌, refl}
use Rattle.rows.specs.declared.TheConstants.{CARRIED_WIDTH, OWN_WIDTH, TOMBSTONE_WIDTH, CONTACT_WIDTH, BAD_TAG_WIDTH, OFFER_WIDTH, REPLY_WIDTH, ACTION_WIDTH, REACHABLE_WIDTH, PREFIX_WIDTH, REPLY_BODY, MAX_CONTACTS, MAX_OWN, MAX_CARRIED, MAX_CELLS, MAX_PER_VERIFIED, MAX_INVENTORY, MAX_OFFERS, LISTED_REPLIES, LISTED_ACTIONS, CONTACT_AREA, OWN_AREA, CARRIED_AREA, PREFIX_AREA, OFFER_AREA, REPLY_AREA}
use Rattle.rows.specs.Rows.{carried_width, own_width, tombstone_width, contact_width, bad_tag_width, offer_width, reply_width, action_width, reachable_width, prefix_width, reply_body}
use Rattle.rows.specs.Limits.{max_contacts, max_own, max_carried, max_cells, max_per_verified, max_inventory, max_offers, listed_replies, listed_actions, contact_area, own_area, carried_area, prefix_area, offer_area, reply_area}

pub widths : (CARRIED_WIDTH ≡ carried_width)
    × (OWN_WIDTH ≡ own_width)
    × (TOMBSTONE_WIDTH ≡ tombstone_width)
    × (CONTACT_WIDTH ≡ contact_width)
    × (BAD_TAG_WIDTH ≡ bad_tag_width)
    × (OFFER_WIDTH ≡ offer_width)
    × (REPLY_WIDTH ≡ reply_width)
    × (ACTION_WIDTH ≡ action_width)
    × (REACHABLE_WIDTH ≡ reachable_width)
    × (PREFIX_WIDTH ≡ prefix_width)
    × (REPLY_BODY ≡ reply_body)
widths = (refl, refl, refl, refl, refl, refl, refl, refl, refl, refl, refl)

pub limits : (MAX_CONTACTS ≡ max_contacts)
    × (MAX_OWN ≡ max_own)
    × (MAX_CARRIED ≡ max_carried)
    × (MAX_CELLS ≡ max_cells)
    × (MAX_PER_VERIFIED ≡ max_per_verified)
    × (MAX_INVENTORY ≡ max_inventory)
    × (MAX_OFFERS ≡ max_offers)
    × (LISTED_REPLIES ≡ listed_replies)
    × (LISTED_ACTIONS ≡ listed_actions)
    × (CONTACT_AREA ≡ contact_area)
    × (OWN_AREA ≡ own_area)
    × (CARRIED_AREA ≡ carried_area)
    × (PREFIX_AREA ≡ prefix_area)
    × (OFFER_AREA ≡ offer_area)
    × (REPLY_AREA ≡ reply_area)
limits = (refl, refl, refl, refl, refl, refl, refl, refl, refl, refl, refl, refl, refl, refl, refl)
