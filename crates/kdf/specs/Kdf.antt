-- kdf.rs: labelled keys, tags and hashes.
-- Assumes nothing.
use Rattle.std.specs.Prelude.{ℕ, ◌+◌, cond, List, [], ◌∷◌, ◌++◌, length, take, leb, Option, Some, None, Result, Ok, Err}
use Rattle.octets.specs.Bytes.{be}
use Rattle.sha384.specs.Sha384.{sha384}
use Rattle.hmac.specs.Hmac.{hmac}
use Rattle.hmac.specs.Hkdf.{hkdf}
use Rattle.kdf.specs.declared.Refused.{Refused}
use Rattle.kdf.specs.declared.Refused.TheVariants.{LabelTooLong, OutTooLong}

-- `cairn-r1 `, with its space
abbrev pub protocol : List ℕ
protocol = 99 ∷ 97 ∷ 105 ∷ 114 ∷ 110 ∷ 45 ∷ 114 ∷ 49 ∷ 32 ∷ []

-- a two-byte length, which counts both what follows it, `cairn-r1 ` and the label
unfoldable pub head : (label : List ℕ) → List ℕ
head label = be 2 (9 + length label) ++ protocol

-- `labelled`: what stands before a label, and the label
unfoldable pub labelled : (label : List ℕ) → List ℕ
labelled label = head label ++ label

-- `tag`: the first n bytes of HMAC
abbrev pub tag : (n : ℕ) (key label x : List ℕ) → List ℕ
tag n key label x = take n (hmac key (labelled label ++ x))

-- `mac`: a tag of 16 bytes
unfoldable pub mac : (key label x : List ℕ) → List ℕ
mac key label x = tag 16 key label x

-- `kdf` for n bytes
unfoldable pub kdf : (ikm salt label info : List ℕ) (n : ℕ) → List ℕ
kdf ikm salt label info n = hkdf ikm salt (labelled label ++ info) n

-- `hash` of a labelled label and x: what it is called with here
unfoldable pub hash : (label x : List ℕ) → List ℕ
hash label x = sha384 (labelled label ++ x)

-- the label "commit"
abbrev pub commit_label : List ℕ
commit_label = 99 ∷ 111 ∷ 109 ∷ 109 ∷ 105 ∷ 116 ∷ []

-- `commit`: the first 32 bytes of H("commit", nonce)
unfoldable pub commit : (nonce : List ℕ) → List ℕ
commit nonce = take 32 (hash commit_label nonce)

-- ---- the answers by value: None for a label whose length does not fit two bytes

abbrev pub longest_label : ℕ
longest_label = 65526

unfoldable pub answered : {A : Type 0} → (label : List ℕ) → A → A → A
answered label made none = cond (leb (length label) longest_label) made none

unfoldable pub head_as : (label : List ℕ) → Option (List ℕ)
head_as label = answered label (Some (head label)) None

unfoldable pub key_as : (label key : List ℕ) → Option (List ℕ)
key_as label key = answered label (Some key) None

unfoldable pub digest_as : (label digest : List ℕ) → Option (List ℕ)
digest_as label digest = answered label (Some digest) None

-- ---- the answers for a lent area: the label is told first, since the source makes `labelled` before it asks for bytes

-- a tag has at most all bytes of HMAC; what `kdf` makes has at most `longest`, as HKDF has it
abbrev pub longest_tag : ℕ
longest_tag = 48

-- the answer for an area of n bytes, where at most `most` can be made
unfoldable pub told : (label : List ℕ) (most n : ℕ) → Result (Unit {0}) Refused
told label most n = answered label (cond (leb n most) (Ok tt) (Err OutTooLong)) (Err LabelTooLong)

-- what the area holds then: the bytes that were asked for, or what it held
unfoldable pub kept : (label : List ℕ) (most : ℕ) (asked out : List ℕ) → List ℕ
kept label most asked out = answered label (cond (leb (length out) most) asked out) out
