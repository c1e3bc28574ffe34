-- The window that the host lends, and the tags in it that are bad.
-- Assumes nothing.
use Rattle.std.specs.Prelude.{ℕ, ◌/◌, Bool, true, not, ◌&&◌, ◌||◌, List, [], ◌∷◌, length, take, ◌==◌, nat_lt, Option}
use Rattle.octets.specs.Bytes.{same_bytes}
use Rattle.courier_core.specs.declared.ContactId.{ContactId}
use Rattle.table.specs.Rows.{ragged}
use Rattle.chain.specs.Chain.{dir_of, no_dir}
use Rattle.table.specs.Lists.{any, position}
use Rattle.table.specs.Codec.{Codec, table_of}
use Rattle.rows.specs.declared.Contact.{Contact}
use Rattle.rows.specs.declared.Reachable.{Reachable}
use Rattle.rows.specs.declared.BadTag.{BadTag}
use Rattle.rows.specs.Rows.{reachable_width, reachable_codec, prefix_width}
use Rattle.model.specs.Basics.{same_contact}
use Rattle.model.specs.Contacts.{known}

abbrev pub no_reachable : Reachable
no_reachable = record { contact = record { 0 = 0 }; dir = 0; generation = 0; idx = 0; tag = [] }

-- the rows of a window area
unfoldable pub window_rows : List ℕ → List Reachable
window_rows area = table_of reachable_codec (length area / reachable_width) area

-- the prefixes of an inventory: each is its 8 bytes
abbrev pub prefix_codec : Codec (List ℕ)
prefix_codec = record { width = prefix_width; decode = λ b. b; encode = λ b. b }

unfoldable pub prefix_rows : List ℕ → List (List ℕ)
prefix_rows area = table_of prefix_codec (length area / prefix_width) area

-- the key of a row is below another's: (contact, dir, generation, index)
unfoldable pub key_below : Reachable → Reachable → Bool
key_below a b =
    nat_lt a.contact.0 b.contact.0 || (a.contact.0 == b.contact.0
    && (nat_lt a.dir b.dir || (a.dir == b.dir
    && (nat_lt a.generation b.generation || (a.generation == b.generation && nat_lt a.idx b.idx)))))

unfoldable pub keys_rise : List Reachable → Bool
keys_rise [] = true
keys_rise (a ∷ []) = true
keys_rise (a ∷ b ∷ rs) = key_below a b && keys_rise (b ∷ rs)

unfoldable pub wrong_direction : Reachable → Bool
wrong_direction r = no_dir (dir_of r.dir)

-- number 12 of a window: not whole rows, a direction not `I` or `R`, keys not rising
unfoldable pub wrong_window : List ℕ → Bool
wrong_window area = ragged reachable_width area || any wrong_direction (window_rows area) || not (keys_rise (window_rows area))

-- number 2 of a window: a contact in it isn't known
unfoldable pub strangers : List Contact → List Reachable → Bool
strangers ps rs = any (λ (r : Reachable). not (known ps r.contact)) rs

-- `lookup`: the place of the first row whose tag begins with a prefix (a whole tag, or 8 bytes)
unfoldable pub lookup : List Reachable → List ℕ → Option ℕ
lookup rs prefix = position (λ (r : Reachable). same_bytes (take (length prefix) r.tag) prefix) rs

-- is a tag bad for a peer
unfoldable pub is_bad : List BadTag → ContactId → List ℕ → Bool
is_bad bs peer tag = any (λ (b : BadTag). same_contact b.peer peer && same_bytes b.tag tag) bs
