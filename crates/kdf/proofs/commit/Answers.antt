use Rattle.octets.specs.Bytes.{part}
use Rattle.kdf.proofs.KdfLaws.{commit_bytes}
use Rattle.kdf.proofs.commit.Goals as goal

pub returns : goal.returns
unfolding part
returns c = commit_bytes c.args.nonce c.hash_of-digest.ensures c.get_array.ensures
