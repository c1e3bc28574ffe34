-- RFC 5869 with SHA-384: HashLen = 48.
-- Assumes nothing.
use Rattle.std.specs.Prelude.{ℕ, zero, suc, ◌+◌, ◌*◌, ◌/◌, cond, List, [], ◌∷◌, ◌++◌, length, take, replicate, eqb, leb, Result, Ok, Err}
use Rattle.hmac.specs.Hmac.{hmac}
use Rattle.hmac.specs.declared.TooLong.{TooLong}

-- 2.2: PRK = HMAC-Hash(salt, IKM). A salt that is not provided, here an empty one, is HashLen zeros
unfoldable pub extract : (salt ikm : List ℕ) → List ℕ
extract salt ikm = hmac (cond (eqb (length salt) 0) (replicate 48 0) salt) ikm

-- 2.3: T(0) is empty, T(i) = HMAC-Hash(PRK, T(i - 1) | info | i), the number i in one octet
unfoldable pub T : (prk info : List ℕ) → ℕ → List ℕ
T prk info zero = []
T prk info (suc i) = hmac prk (T prk info i ++ info ++ (suc i ∷ []))

-- T(1) | .. | T(n)
unfoldable pub up_to : (prk info : List ℕ) → ℕ → List ℕ
up_to prk info zero = []
up_to prk info (suc n) = up_to prk info n ++ T prk info (suc n)

-- OKM: the first L octets of T(1) | .. | T(N), with N = ceil(L / HashLen)
unfoldable pub expand : (prk info : List ℕ) (L : ℕ) → List ℕ
expand prk info L = take L (up_to prk info ((L + 47) / 48))

-- L is at most 255 HashLen
abbrev pub longest : ℕ
longest = 255 * 48

unfoldable pub hkdf : (ikm salt info : List ℕ) (L : ℕ) → List ℕ
hkdf ikm salt info L = expand (extract salt ikm) info L

-- the answer for an area of L bytes, and what the area holds then
unfoldable pub derived : ℕ → Result (Unit {0}) TooLong
derived L = cond (leb L longest) (Ok tt) (Err (record {}))

unfoldable pub filled : (ikm salt info out : List ℕ) → List ℕ
filled ikm salt info out = cond (leb (length out) longest) (hkdf ikm salt info (length out)) out
