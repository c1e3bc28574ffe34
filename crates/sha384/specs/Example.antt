-- The standard's example, by computation: SHA-384 of "abc".
-- Assumes nothing.
use Rattle.std.specs.Prelude.{◌≡◌, refl, [], ◌∷◌}
use Rattle.octets.specs.Bytes.{part, num, be}
use Rattle.sha_word.specs.Word.{ROTR, Ch, Maj, Σ0, Σ1, σ0, σ1}
use Rattle.sha_block.specs.Loop.{turns}
use Rattle.sha_block.specs.Constants.{K}
use Rattle.sha_block.specs.Block.{M, mixed, W, longer, schedule, T1, T2, turned, round, summed, compress}
use Rattle.sha384.specs.Padding.{padding, padded}
use Rattle.sha384.specs.Sha384.{H0, next, hashed, bytes, digest, sha384}

pub abc : sha384 (0x61 ∷ 0x62 ∷ 0x63 ∷ [])
    ≡ bytes
    (0xcb00_753f_45a3_5e8b ∷
    0xb5a0_3d69_9ac6_5007 ∷
    0x272c_32ab_0ede_d163 ∷
    0x1a8b_605a_43ff_5bed ∷
    0x8086_072b_a1e7_cc23 ∷
    0x58ba_eca1_34c8_25a7 ∷
    [])
unfolding part num be ROTR Ch Maj Σ0 Σ1 σ0 σ1 turns K M mixed W longer schedule T1 T2 turned round summed compress padding padded H0 next hashed bytes digest sha384
abc = refl
