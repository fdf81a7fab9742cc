-- How the tables of roots go on by one more root.
use Rattle.std.proofs.Common.{◌≡◌, List, [], ◌∷◌, ◌++◌, map, sym, ap}
use Rattle.xc_disjoint.specs.declared.channels.RootTable.{RootTable}
use Rattle.xc_disjoint.specs.RootUses.{RootUse, seen_in}

-- a root's table more behind some, and a root less before others
pub pushed_root : (ts : List RootTable) (t : RootTable) (r : RootUse) (rs : List RootUse) → seen_in t ≡ r →
    map seen_in ts ++ r ∷ rs ≡ map seen_in (ts ++ t ∷ []) ++ rs
pushed_root [] t r rs e = ap (λ s. s ∷ rs) (sym e)
pushed_root (x ∷ ts) t r rs e = ap (λ ss. seen_in x ∷ ss) (pushed_root ts t r rs e)
