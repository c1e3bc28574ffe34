-- Document 01's courier.rs: `route_tag`, `delivered`, `commitment` and `tombstone_matches`, by the hashes of kdf.rs.
-- Assumes nothing.
use Rattle.std.specs.Prelude.{ℕ, Bool, List, [], ◌∷◌, take}
use Rattle.octets.specs.Bytes.{same_bytes}
use Rattle.data.specs.Leb128.{leb128}
use Rattle.kdf.specs.Kdf.{mac, kdf, hash}
use Rattle.chain.specs.declared.Dir.{Dir}
use Rattle.chain.specs.Chain.{dir_label}

-- the labels "route" and "delivered"
abbrev pub route_label : List ℕ
route_label = 114 ∷ 111 ∷ 117 ∷ 116 ∷ 101 ∷ []

abbrev pub delivered_label : List ℕ
delivered_label = 100 ∷ 101 ∷ 108 ∷ 105 ∷ 118 ∷ 101 ∷ 114 ∷ 101 ∷ 100 ∷ []

-- the direction's byte, the generation, and the index as LEB128
unfoldable pub route_input : Dir → ℕ → ℕ → List ℕ
route_input dir generation idx = dir_label dir ∷ generation ∷ leb128 idx

-- `route_tag`: MAC(key, "route", direction, generation, index)
unfoldable pub route_tag : List ℕ → Dir → ℕ → ℕ → List ℕ
route_tag key dir generation idx = mac key route_label (route_input dir generation idx)

-- `delivered`: KDF(key, no salt, "delivered", no info), 16 bytes
unfoldable pub delivered_secret : List ℕ → List ℕ
delivered_secret key = kdf key [] delivered_label [] 16

-- `commitment`: the first 16 bytes of H("delivered", s)
unfoldable pub commitment_of : List ℕ → List ℕ
commitment_of s = take 16 (hash delivered_label s)

-- `tombstone_matches`: does s open the commitment c
unfoldable pub tombstone_matches : List ℕ → List ℕ → Bool
tombstone_matches c s = same_bytes (commitment_of s) c
