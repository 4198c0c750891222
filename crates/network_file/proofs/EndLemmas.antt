-- The ends of links as a map keeps them: what stands at a port, and what a link adds.
use Rattle.std.proofs.Common.{◌≡◌, ℕ, zero, suc, ◌+◌, ◌<◌, ◌≤◌, Bool, true, false, cond, not, ◌||◌, List, [], ◌∷◌, ◌++◌, map, take, drop, length, get_or, Option, Some, Result, Ok, Err, refl, sym, ap, ◌∙◌, append_assoc, arith}
use Rattle.std.specs.Prelude.{is_some, ⊤}
use Rattle.std.specs.List.{list_any}
use Rattle.std.specs.Map.{lookup, keys_of}
use Rattle.std.proofs.lemmas.List.{take_all}
use Rattle.std.proofs.lemmas.Grind.{flat_map-append}
use Rattle.std.proofs.lemmas.Map.Made.{is_some-lookup}
use Rattle.indexmap.specs.IndexMap.{insert_entry}
use Rattle.network_run.specs.Network.{Link, far_end_among}
use Rattle.json_parts.specs.Turns.{in_turn}
use Rattle.json_parts.proofs.TurnLemmas.{turn_more, turn_stop}
use Rattle.network_file.specs.declared.fault.NetworkFault.{NetworkFault}
use Rattle.network_file.specs.declared.fault.NetworkFault.TheVariants as fault
use Rattle.network_file.specs.Named.{link_path}
use Rattle.network_file.specs.Network.{Port, same_port, one_end, other_end, is_taken, with_ports, is_high, low}
use Rattle.network_file.specs.Ends.{both_ends, ends_of, links_in}

-- the port at the other end
pub lookup_ends : (ls : List Link) (switch port : ℕ) → lookup (same_port (switch, port)) (ends_of ls) ≡ far_end_among ls switch port
lookup_ends [] switch port = refl
lookup_ends (l ∷ ls) switch port =
    ap (λ (rest : Option Port). cond (same_port (switch, port) (one_end l)) (Some (other_end l)) (cond (same_port (switch, port) (other_end l)) (Some (one_end l)) rest)) (lookup_ends ls switch port)

-- the links of these ends
pub links_in_ends : (ls : List Link) → links_in (ends_of ls) ≡ ls
links_in_ends [] = refl
links_in_ends (l ∷ ls) = ap (λ (rest : List Link). l ∷ rest) (links_in_ends ls)

pub neither : (a b : Bool) → (a || b) ≡ false → (a ≡ false) × (b ≡ false)
neither true b e = absurd cc
neither false b e = (refl, e)

-- a port that is new goes last
insert_new : (es : List (Port × Port)) (p q : Port) → list_any (same_port p) (keys_of es) ≡ false → insert_entry same_port es p q ≡ es ++ (p, q) ∷ []
insert_new [] p q h = refl
insert_new (e ∷ es) p q h =
    let parts = neither (same_port p e.0) (list_any (same_port p) (keys_of es)) h in
    rw parts.0 (ap (λ (rest : List (Port × Port)). e ∷ rest) (insert_new es p q parts.1))

keys_push : (es : List (Port × Port)) (p q : Port) → keys_of (es ++ (p, q) ∷ []) ≡ keys_of es ++ p ∷ []
keys_push [] p q = refl
keys_push (e ∷ es) p q = ap (λ (rest : List Port). e.0 ∷ rest) (keys_push es p q)

keys_put : (es : List (Port × Port)) (l : Link) → keys_of (es ++ both_ends l) ≡ keys_of es ++ (one_end l ∷ other_end l ∷ [])
keys_put [] l = refl
keys_put (e ∷ es) l = ap (λ (rest : List Port). e.0 ∷ rest) (keys_put es l)

module _ (es : List (Port × Port)) (l : Link) where
  -- the one end was there
  pub taken_by_one : is_some (lookup (same_port (one_end l)) es) ≡ true → is_taken (keys_of es) l ≡ true
  taken_by_one there = rw (sym (is_some-lookup (same_port (one_end l)) es) ∙ there) refl

  -- it was not, and then the other end was put too
  module _ (fresh : is_some (lookup (same_port (one_end l)) es) ≡ false) (mid : List (Port × Port)) (put_one : mid ≡ insert_entry same_port es (one_end l) (other_end l)) where
    one_is_new : list_any (same_port (one_end l)) (keys_of es) ≡ false
    one_is_new = sym (is_some-lookup (same_port (one_end l)) es) ∙ fresh

    mid_is : mid ≡ es ++ (one_end l, other_end l) ∷ []
    mid_is = put_one ∙ insert_new es (one_end l) (other_end l) one_is_new

    mid_keys : keys_of mid ≡ keys_of es ++ one_end l ∷ []
    mid_keys = ap keys_of mid_is ∙ keys_push es (one_end l) (other_end l)

    other_there : is_some (lookup (same_port (other_end l)) mid) ≡ list_any (same_port (other_end l)) (keys_of es ++ one_end l ∷ [])
    other_there = is_some-lookup (same_port (other_end l)) mid ∙ ap (λ (ks : List Port). list_any (same_port (other_end l)) ks) mid_keys

    pub taken_by_other : not (is_some (lookup (same_port (other_end l)) mid)) ≡ not (is_taken (keys_of es) l)
    taken_by_other = rw (other_there, one_is_new) refl

    pub both_put : (new : List (Port × Port)) → is_some (lookup (same_port (other_end l)) mid) ≡ false → new ≡ insert_entry same_port mid (other_end l) (one_end l) → new ≡ es ++ both_ends l
    both_put new free put_other =
        let other_new : list_any (same_port (other_end l)) (keys_of mid) ≡ false = sym (is_some-lookup (same_port (other_end l)) mid) ∙ free in
        put_other ∙ insert_new mid (other_end l) (one_end l) other_new ∙ ap (λ (m : List (Port × Port)). m ++ (other_end l, one_end l) ∷ []) mid_is ∙ append_assoc es _ _

-- the i-th link beside the ports of those before it
module _ {A : Type 0} (v : A → Link) (xs : List A) (i : ℕ) (d : A) (lt : i < length xs) where
  module _ (es : List (Port × Port)) (total : Result (List Port) NetworkFault) (so_far : in_turn with_ports (keys_of es) i (drop i (map v xs)) ≡ total) where
    pub ports_stop : is_taken (keys_of es) (v (get_or xs i d)) ≡ true → total ≡ Err (fault.PortTwice (link_path i))
    ports_stop e =
        let step : with_ports (keys_of es) i (v (get_or xs i d)) ≡ Err (fault.PortTwice (link_path i)) = rw e refl in
        turn_stop with_ports v (keys_of es) i xs d total (fault.PortTwice (link_path i)) lt step so_far

    pub ports_more : (new : List (Port × Port)) → is_taken (keys_of es) (v (get_or xs i d)) ≡ false → new ≡ es ++ both_ends (v (get_or xs i d)) → in_turn with_ports (keys_of new) (i + 1) (drop (i + 1) (map v xs)) ≡ total
    ports_more new e is =
        let step : with_ports (keys_of es) i (v (get_or xs i d)) ≡ Ok (keys_of new) = rw (e, is, keys_put es (v (get_or xs i d))) refl in
        turn_more with_ports v (keys_of es) i xs d total (keys_of new) lt step so_far

  module _ (total : Result ⊤ NetworkFault) (so_far : in_turn low (tt {0}) i (drop i (map v xs)) ≡ total) where
    pub high_stop : is_high (v (get_or xs i d)) ≡ true → total ≡ Err (fault.BadPort (link_path i))
    high_stop e =
        let step : low (tt {0}) i (v (get_or xs i d)) ≡ Err (fault.BadPort (link_path i)) = rw e refl in
        turn_stop low v (tt {0}) i xs d total (fault.BadPort (link_path i)) lt step so_far

    pub high_more : is_high (v (get_or xs i d)) ≡ false → in_turn low (tt {0}) (i + 1) (drop (i + 1) (map v xs)) ≡ total
    high_more e =
        let step : low (tt {0}) i (v (get_or xs i d)) ≡ Ok (tt {0}) = rw e refl in
        turn_more low v (tt {0}) i xs d total (tt {0}) lt step so_far

-- the ends of one link more
take_more : {A B : Type 0} (v : A → B) (xs : List A) (i : ℕ) (d : A) → i < length xs → take (i + 1) (map v xs) ≡ take i (map v xs) ++ v (get_or xs i d) ∷ []
take_more v [] i d lt = absurd (omega arith)
take_more v (x ∷ xs) zero d lt = refl
take_more {A} {B} v (x ∷ xs) (suc i) d lt =
    let next : suc i + 1 ≡ suc (i + 1) = omega arith in
    ap (λ (n : ℕ). take n (map v (x ∷ xs))) next ∙ ap (λ (rest : List B). v x ∷ rest) (take_more v xs i d (omega arith))

pub held_more : {A : Type 0} (v : A → Link) (xs : List A) (i : ℕ) (d : A) (es new : List (Port × Port)) → i < length xs → es ≡ ends_of (take i (map v xs)) → new ≡ es ++ both_ends (v (get_or xs i d)) → new ≡ ends_of (take (i + 1) (map v xs))
held_more v xs i d es new lt is n =
    let before : ends_of (take i (map v xs) ++ v (get_or xs i d) ∷ []) ≡ ends_of (take i (map v xs)) ++ both_ends (v (get_or xs i d)) = flat_map-append both_ends (take i (map v xs)) (v (get_or xs i d) ∷ []) in
    n ∙ ap (λ (e : List (Port × Port)). e ++ both_ends (v (get_or xs i d))) is ∙ sym before ∙ ap ends_of (sym (take_more v xs i d lt))

length_map : {A B : Type 0} (v : A → B) (xs : List A) → length (map v xs) ≡ length xs
length_map v [] = refl
length_map v (x ∷ xs) = ap suc (length_map v xs)

pub held_all : {A : Type 0} (v : A → Link) (xs : List A) (i : ℕ) (es : List (Port × Port)) → length xs ≤ i → es ≡ ends_of (take i (map v xs)) → es ≡ ends_of (map v xs)
held_all v xs i es le is = is ∙ ap ends_of (take_all i (map v xs) (rw (length_map v xs) le))
