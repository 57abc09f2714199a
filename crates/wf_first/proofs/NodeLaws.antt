-- Keys of nodes and the nodes that they stand for.
use Rattle.std.proofs.Common.{◌≡◌, ℕ, suc, ◌+◌, ◌<◌, ◌≤◌, Bool, true, false, ◌||◌, cond, if◌then◌else◌, nat_lt, List, [], ◌∷◌, ◌++◌, length, get_or, drop, map, Some, None, position, refl, sym, ap, ◌∙◌, arith, add-one, drop-cons, ltb-false}
use Rattle.std.proofs.lemmas.List.{map-append, length-map}
use Rattle.std.proofs.lemmas.List.Recursion.{is_position_or_len}
use Rattle.std.specs.List.{list_any, position_or_len}
use Rattle.wf_sys.specs.Nodes.{Node}
use Rattle.wf_first.specs.declared.nodes.NodeKey.{NodeKey}
use Rattle.wf_first.specs.declared.nodes.NodeKey.TheVariants as keys
use Rattle.wf_first.specs.contracts.nodes.NodeKeyPartialEq.TheImpl.{eq-value}
use Rattle.wf_first.specs.Nodes.{node_of, same_node, has_node, with_node, with_nodes, place_of}

-- whether two keys are one
abbrev pub same_key : NodeKey → NodeKey → Bool
same_key = (eq-value).it

pub same_key-node : (a b : NodeKey) → same_key a b ≡ same_node (node_of a) (node_of b)
same_key-node keys.Inst keys.Inst = refl
same_key-node keys.Start keys.Start = refl
same_key-node keys.Nothing keys.Nothing = refl
same_key-node (keys.Initialized a) (keys.Initialized b) = refl
same_key-node (keys.Entered m) (keys.Entered n) = refl
same_key-node (keys.Parameter m i) (keys.Parameter n j) = refl
same_key-node (keys.Returned m) (keys.Returned n) = refl
same_key-node (keys.Result m i) (keys.Result n j) = refl
same_key-node a b = refl

any_key : (k : NodeKey) (ks : List NodeKey) → list_any (same_key k) ks ≡ has_node (map node_of ks) (node_of k)
any_key k [] = refl
any_key k (x ∷ ks) = rw (same_key-node k x) (ap (λ (b : Bool). same_node (node_of k) (node_of x) || b) (any_key k ks))

-- adding a key adds its node
pub key_is_added : (k : NodeKey) (old new : List NodeKey) (nodes : List Node) → map node_of old ≡ nodes → new ≡ (if list_any (same_key k) old then old else old ++ k ∷ []) → map node_of new ≡ with_node nodes (node_of k)
key_is_added k old new nodes view is =
    ap (map node_of) is ∙ go (list_any (same_key k) old) ∙ ap (λ (b : Bool). if b then map node_of old else map node_of old ++ node_of k ∷ []) (any_key k old) ∙ ap (λ (ns : List Node). with_node ns (node_of k)) view
  where
    go : (b : Bool) → map node_of (if b then old else old ++ k ∷ []) ≡ (if b then map node_of old else map node_of old ++ node_of k ∷ [])
    go true = refl
    go false = map-append node_of old (k ∷ [])

-- ---- the place of a key

place_or_len : (k : NodeKey) (ks : List NodeKey) → place_of (map node_of ks) (node_of k) ≡ position_or_len (same_key k) ks
place_or_len k ks = is_position_or_len (λ (xs : List NodeKey). place_of (map node_of xs) (node_of k)) (same_key k) refl (λ x xs. next x xs) ks
  where
    go : (b : Bool) (n : ℕ) → (if b then 0 else suc n) ≡ cond b 0 (1 + n)
    go true n = refl
    go false n = omega arith

    next : (x : NodeKey) (xs : List NodeKey) → place_of (map node_of (x ∷ xs)) (node_of k) ≡ cond (same_key k x) 0 (1 + place_of (map node_of xs) (node_of k))
    next x xs = rw (same_key-node k x) (go (same_node (node_of k) (node_of x)) (place_of (map node_of xs) (node_of k)))

-- a place is in the list, or at its end
pub place_fits : (nodes : List Node) (n : Node) → place_of nodes n ≤ length nodes
place_fits [] n = omega arith
place_fits (m ∷ nodes) n = go (same_node n m) (place_fits nodes n)
  where
    go : (b : Bool) → place_of nodes n ≤ length nodes → (if b then 0 else suc (place_of nodes n)) ≤ length (m ∷ nodes)
    go true le = omega arith
    go false le = omega arith

pub key_is_at : (k : NodeKey) (ks : List NodeKey) (nodes : List Node) (n : ℕ) → map node_of ks ≡ nodes → position (same_key k) ks ≡ Some n → n ≡ place_of nodes (node_of k)
key_is_at k ks nodes n view found = go (nat_lt (position_or_len (same_key k) ks) (length ks)) found ∙ sym (place_or_len k ks) ∙ ap (λ (ns : List Node). place_of ns (node_of k)) view
  where
    go : (b : Bool) → cond b (Some (position_or_len (same_key k) ks)) None ≡ Some n → n ≡ position_or_len (same_key k) ks
    go true e = cc
    go false e = cc

pub key_is_nowhere : (k : NodeKey) (ks : List NodeKey) (nodes : List Node) → map node_of ks ≡ nodes → position (same_key k) ks ≡ None → length ks ≡ place_of nodes (node_of k)
key_is_nowhere k ks nodes view found =
    let at : place_of (map node_of ks) (node_of k) ≡ position_or_len (same_key k) ks = place_or_len k ks in
    let fits : place_of (map node_of ks) (node_of k) ≤ length (map node_of ks) = place_fits (map node_of ks) (node_of k) in
    let long : length (map node_of ks) ≡ length ks = length-map ks node_of in
    let over : length ks ≤ position_or_len (same_key k) ks = go (nat_lt (position_or_len (same_key k) ks) (length ks)) refl found in
    let same : length ks ≡ place_of (map node_of ks) (node_of k) = omega arith in
    same ∙ ap (λ (ns : List Node). place_of ns (node_of k)) view
  where
    go : (b : Bool) → nat_lt (position_or_len (same_key k) ks) (length ks) ≡ b → cond b (Some (position_or_len (same_key k) ks)) None ≡ None → length ks ≤ position_or_len (same_key k) ks
    go true is e = cc
    go false is e = ltb-false _ _ is

-- ---- adding nodes

pub with_nodes_both : (nodes xs ys : List Node) → with_nodes nodes (xs ++ ys) ≡ with_nodes (with_nodes nodes xs) ys
with_nodes_both nodes [] ys = refl
with_nodes_both nodes (x ∷ xs) ys = with_nodes_both (with_node nodes x) xs ys

-- The nodes of the elements of a list are added, each element's in turn.
pub added_next : {X : Type 0} (f : X → List Node) (all : List X → List Node) → ((x : X) (xs : List X) → all (x ∷ xs) ≡ f x ++ all xs)
    → (xs : List X) (i : ℕ) (x : X) (old new total : List Node) → i < length xs → x ≡ get_or xs i x → with_nodes old (all (drop i xs)) ≡ total → new ≡ with_nodes old (f x) → with_nodes new (all (drop (i + 1) xs)) ≡ total
added_next f all steps xs i x old new total lt is so_far added =
    let cut : drop i xs ≡ get_or xs i x ∷ drop (i + 1) xs = rw (add-one, drop-cons xs i x) refl in
    let here : drop i xs ≡ x ∷ drop (i + 1) xs = cut ∙ ap (λ y. y ∷ drop (i + 1) xs) (sym is) in
    let both : all (drop i xs) ≡ f x ++ all (drop (i + 1) xs) = ap all here ∙ steps x (drop (i + 1) xs) in
    ap (λ ns. with_nodes ns (all (drop (i + 1) xs))) added ∙ sym (with_nodes_both old (f x) (all (drop (i + 1) xs))) ∙ ap (with_nodes old) (sym both) ∙ so_far
