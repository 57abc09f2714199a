-- The layout of words: nodes have at least one each, and their words don't meet.
use Rattle.std.proofs.Common.{◌≡◌, ℕ, zero, suc, ◌+◌, ◌-◌, ◌^◌, ◌≤◌, ◌<◌, List, length, ap, arith}
use Rattle.wf_system.specs.declared.node_shape.NodeShape.{NodeShape}
use Rattle.wf_system.specs.Shapes.{shape_at, words_before, all_words, IsLaidOut}

pub nodes_few : (nodes : List NodeShape) (n : ℕ) → IsLaidOut nodes → n ≤ length nodes → n ≤ words_before nodes n
nodes_few nodes zero laid le = omega arith
nodes_few nodes (suc n) laid le = omega (arith, nodes_few nodes n laid (omega arith), laid.each_some n (omega arith))

pub words_more : (nodes : List NodeShape) (m n : ℕ) → words_before nodes m ≤ words_before nodes (m + n)
words_more nodes m zero = let e : m + 0 ≡ m = omega arith in omega (arith, ap (words_before nodes) e)
words_more nodes m (suc n) = let e : m + suc n ≡ suc (m + n) = omega arith in omega (arith, ap (words_before nodes) e, words_more nodes m n)

-- a node's words end before those of a later node begin
pub nodes_apart : (nodes : List NodeShape) (m n : ℕ) → IsLaidOut nodes → m < n → n < length nodes → (shape_at nodes m).first_word + (shape_at nodes m).words ≤ (shape_at nodes n).first_word
nodes_apart nodes m n laid before lt =
    let e : suc m + (n - suc m) ≡ n = omega arith in
    omega (arith, laid.each_first m (omega arith), laid.each_first n lt, words_more nodes (suc m) (n - suc m), ap (words_before nodes) e)

-- and within all words
pub node_within : (nodes : List NodeShape) (n : ℕ) → IsLaidOut nodes → n < length nodes → (shape_at nodes n).first_word + (shape_at nodes n).words ≤ all_words nodes
node_within nodes n laid lt =
    let e : suc n + (length nodes - suc n) ≡ length nodes = omega arith in
    omega (arith, laid.each_first n lt, words_more nodes (suc n) (length nodes - suc n), ap (words_before nodes) e)

-- the nodes below a number are laid out, and their words end at `next`
pub record LaidOutTo (nodes : List NodeShape) (n next : ℕ) : Type 0 where
  pub each_first : (k : ℕ) → k < n → (shape_at nodes k).first_word ≡ words_before nodes k
  pub each_some : (k : ℕ) → k < n → 0 < (shape_at nodes k).words
  pub next_is : next ≡ words_before nodes n
  pub few : next < 2 ^ 32
