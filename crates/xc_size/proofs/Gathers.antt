-- Counts of a list that are gathered from its front, no further than one above their limits.
use Rattle.std.proofs.Common.{◌≡◌, ℕ, ◌+◌, max, arith}
use Rattle.xc_kernel.specs.Size.{most_statements, most_nodes, greatest_depth}
use Rattle.xc_size.specs.declared.size.Size.{Size}
use Rattle.xc_size.specs.Sizes.{up_to, no_size}

-- of the whole count so much is gathered, and this is the rest
pub record Gathers (limit all gathered rest : ℕ) : Type 0 where
  pub whole : up_to limit all ≡ up_to limit (gathered + rest)
  pub within : up_to limit gathered ≡ gathered

pub record GathersHighest (limit all gathered rest : ℕ) : Type 0 where
  pub whole : up_to limit all ≡ up_to limit (max gathered rest)
  pub within : up_to limit gathered ≡ gathered

-- none is gathered yet
pub gathers_none : (l all : ℕ) → Gathers l all 0 all
unfolding up_to
gathers_none l all = record { whole = omega arith; within = omega arith }

pub highest_none : (l all : ℕ) → GathersHighest l all 0 all
unfolding up_to
highest_none l all = record { whole = omega arith; within = omega arith }

-- one more is gathered
pub gathers_more : (l all rest x y next so_far gathered : ℕ) → rest ≡ x + next → y ≡ up_to l x → gathered ≡ up_to l (so_far + y) → Gathers l all so_far rest → Gathers l all gathered next
unfolding up_to
gathers_more l all rest x y next so_far gathered e f g h = record { whole = let w = h.whole in omega arith; within = omega arith }

pub highest_more : (l all rest x y next so_far gathered : ℕ) → rest ≡ max x next → y ≡ up_to l x → gathered ≡ up_to l (max so_far y) → GathersHighest l all so_far rest → GathersHighest l all gathered next
unfolding up_to
highest_more l all rest x y next so_far gathered e f g h = record { whole = let w = h.whole in omega arith; within = omega arith }

-- all are gathered
pub gathers_all : (l all gathered rest : ℕ) → rest ≡ 0 → Gathers l all gathered rest → gathered ≡ up_to l all
unfolding up_to
gathers_all l all gathered rest e h = let w = h.whole in let v = h.within in omega arith

pub highest_all : (l all gathered rest : ℕ) → rest ≡ 0 → GathersHighest l all gathered rest → gathered ≡ up_to l all
unfolding up_to
highest_all l all gathered rest e h = let w = h.whole in let v = h.within in omega arith

-- all three counts of a list
pub record Gathered (s n d : ℕ) (size : Size) (ms mn md : ℕ) : Type 0 where
  pub statements : Gathers most_statements s size.statements ms
  pub nodes : Gathers most_nodes n size.nodes mn
  pub depth : GathersHighest greatest_depth d size.depth md

pub gathered_none : (s n d : ℕ) → Gathered s n d no_size s n d
gathered_none s n d = record { statements = gathers_none most_statements s; nodes = gathers_none most_nodes n; depth = highest_none greatest_depth d }

-- one part more is gathered, of these three counts
pub gathered_more :
    (s n d : ℕ) (so_far part gathered : Size) (ls ln ld xs xn xd ms mn md : ℕ)
    → ls ≡ xs + ms → ln ≡ xn + mn → ld ≡ max xd md
    → part.statements ≡ up_to most_statements xs → part.nodes ≡ up_to most_nodes xn → part.depth ≡ up_to greatest_depth xd
    → gathered.statements ≡ up_to most_statements (so_far.statements + part.statements)
    → gathered.nodes ≡ up_to most_nodes (so_far.nodes + part.nodes)
    → gathered.depth ≡ up_to greatest_depth (max so_far.depth part.depth)
    → Gathered s n d so_far ls ln ld → Gathered s n d gathered ms mn md
gathered_more s n d so_far part gathered ls ln ld xs xn xd ms mn md e f g a b c p q r h = record {
  statements = gathers_more most_statements s ls xs part.statements ms so_far.statements gathered.statements e a p h.statements;
  nodes = gathers_more most_nodes n ln xn part.nodes mn so_far.nodes gathered.nodes f b q h.nodes;
  depth = highest_more greatest_depth d ld xd part.depth md so_far.depth gathered.depth g c r h.depth;
}
