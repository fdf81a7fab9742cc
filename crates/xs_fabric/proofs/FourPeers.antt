-- In a valid image each peer is on one of the four cores.
use Rattle.std.proofs.Common.{◌<◌, ℕ, Bool, true, false, List, [], ◌∷◌}
use Rattle.xs_core.proofs.Peers.{core_there}
use Rattle.xs_instr.specs.declared.image.CoreImage.{CoreImage}
use Rattle.xs_instr.specs.declared.image.Image.{Image}
use Rattle.xs_instr.specs.declared.image.Pair.{Pair}
use Rattle.xs_instr.specs.Ends.{is_first, is_second, peer_by, peer_of}
use Rattle.xs_instr.specs.Valid.{AreGoodCores, AreGoodPairs, Valid}

peer_four : (ks : List CoreImage) (ps : List Pair) (c e : ℕ) → AreGoodCores 0 ks → AreGoodPairs ks ps → c < 4 → (peer_of ps c e).core < 4
peer_four ks [] c e good pairs lc = lc
peer_four ks (p ∷ ps) c e good pairs lc = go (is_first p c e) (is_second p c e) (peer_four ks ps c e good pairs.2 lc)
  where
    go : (f g : Bool) → (peer_of ps c e).core < 4 → (peer_by p (peer_of ps c e) f g).core < 4
    go true g rest = core_there ks 0 p.peer_core p.peer_end good pairs.1
    go false true rest = core_there ks 0 p.core p.end good pairs.0
    go false false rest = rest

pub valid_peers : (L : Image) → Valid L → (c e : ℕ) → c < 4 → (peer_of L.chans c e).core < 4
valid_peers L valid c e lc = peer_four L.cores L.chans c e valid.cores valid.pairs lc
