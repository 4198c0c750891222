-- The network's file has no fault, and says three switches in a line.
use Rattle.std.proofs.Common.{◌≡◌, ℕ, ◌+◌, codes, Bool, true, cond, List, [], ◌∷◌, ◌++◌, Some, None, Result, Ok, Err, refl, sym, ap, ◌∙◌, arith}
use Rattle.std.specs.List.{All}
use Rattle.std.specs.Option.{option_map_or}
use Rattle.std.proofs.lemmas.List.Elements.{All-nil, All-cons}
use Rattle.serde_json.specs.Data.{Data, string, number, unsigned}
use Rattle.network_run.specs.Network.{Link, IsLinkOf, IsWiring}
use Rattle.json_parts.specs.Answers.{◌>>=◌}
use Rattle.json_parts.specs.Turns.{in_turn, all_of, behind}
use Rattle.json_parts.specs.Paths.{item_below}
use Rattle.json_parts.specs.Object.{Object, members_of, list_at, maybe_at}
use Rattle.json_parts.specs.declared.fault.ShapeFault.TheVariants.{Shape}
use Rattle.network_file.specs.Named.{is_name, name_at, port_at, NamedFile, link_path, link_at, switch_path, switch_at, links_of, switches_of, file_of}
use Rattle.network_file.specs.Network.{Network, with_name, different, numbered, all_numbered, with_ports, free, low, in_range, network_of}
use Rattle.network_file.specs.Wiring.{wiring_of}
use Rattle.wire_job.specs.Line.{wire_network, link_data, line_data}

-- ---- in turn

-- a step, and the end
turn : {E S A : Type 0} (step : S → ℕ → A → Result S E) (s t : S) (i : ℕ) (x : A) (xs : List A) → step s i x ≡ Ok t → in_turn step s i (x ∷ xs) ≡ in_turn step t (i + 1) xs
unfolding in_turn
turn step s t i x xs is = ap (λ r. r >>= λ more. in_turn step more (i + 1) xs) is

turned : {E S A : Type 0} (step : S → ℕ → A → Result S E) (s : S) (i : ℕ) → in_turn step s i [] ≡ Ok s
unfolding in_turn
turned step s i = refl

two_turns : {E S A : Type 0} (step : S → ℕ → A → Result S E) (s t u : S) (x y : A) → step s 0 x ≡ Ok t → step t 1 y ≡ Ok u → in_turn step s 0 (x ∷ y ∷ []) ≡ Ok u
two_turns step s t u x y p q = turn step s t 0 x (y ∷ []) p ∙ turn step t u 1 y [] q ∙ turned step u 2

three_turns : {E S A : Type 0} (step : S → ℕ → A → Result S E) (s t u v : S) (x y z : A) → step s 0 x ≡ Ok t → step t 1 y ≡ Ok u → step u 2 z ≡ Ok v → in_turn step s 0 (x ∷ y ∷ z ∷ []) ≡ Ok v
three_turns step s t u v x y z p q r = turn step s t 0 x (y ∷ z ∷ []) p ∙ turn step t u 1 y (z ∷ []) q ∙ turn step u v 2 z [] r ∙ turned step v 3

-- what is read goes behind the others
read_behind : {E X A : Type 0} (read : ℕ → A → Result X E) (found : List X) (i : ℕ) (a : A) (x : X) → read i a ≡ Ok x → behind read found i a ≡ Ok (found ++ x ∷ [])
read_behind read found i a x is = ap (λ r. r >>= λ y. Ok (found ++ y ∷ [])) is

two_of : {E X A : Type 0} (read : ℕ → A → Result X E) (a b : A) (x y : X) → read 0 a ≡ Ok x → read 1 b ≡ Ok y → all_of read (a ∷ b ∷ []) ≡ Ok (x ∷ y ∷ [])
two_of read a b x y p q = two_turns (behind read) [] (x ∷ []) (x ∷ y ∷ []) a b (read_behind read [] 0 a x p) (read_behind read (x ∷ []) 1 b y q)

three_of : {E X A : Type 0} (read : ℕ → A → Result X E) (a b c : A) (x y z : X) → read 0 a ≡ Ok x → read 1 b ≡ Ok y → read 2 c ≡ Ok z → all_of read (a ∷ b ∷ c ∷ []) ≡ Ok (x ∷ y ∷ z ∷ [])
three_of read a b c x y z p q r =
    three_turns (behind read) [] (x ∷ []) (x ∷ y ∷ []) (x ∷ y ∷ z ∷ []) a b c (read_behind read [] 0 a x p) (read_behind read (x ∷ []) 1 b y q) (read_behind read (x ∷ y ∷ []) 2 c z r)

-- one answer behind another
ok_then : {E A B : Type 0} (r : Result A E) (x : A) (k : A → Result B E) (y : Result B E) → r ≡ Ok x → k x ≡ y → (r >>= k) ≡ y
ok_then r x k y is then = ap (λ s. s >>= k) is ∙ then

-- ---- names and links

named : (path x : List ℕ) → is_name x ≡ true → name_at path (string x) ≡ Ok x
named path x is = ap (λ (b : Bool). option_map_or (λ s. Ok s) (cond b (Some x) None) (Err (Shape path))) is

linked : (i : ℕ) (a : List ℕ) (m : ℕ) (b : List ℕ) (n : ℕ) → is_name a ≡ true → is_name b ≡ true → link_at i (link_data a m b n) ≡ Ok (record { one = a; one_port = m; other = b; other_port = n })
unfolding link_at
linked i a m b n p q =
    let path = link_path i in
    ok_then (name_at (item_below path 0) (string a)) a
    (λ x. port_at (item_below path 1) (number (unsigned m)) >>= λ k. name_at (item_below path 2) (string b) >>= λ y. port_at (item_below path 3) (number (unsigned n)) >>= λ l. Ok (record { one = x; one_port = k; other = y; other_port = l }))
    _ (named (item_below path 0) a p)
    (ok_then (name_at (item_below path 2) (string b)) b (λ y. Ok (record { one = a; one_port = m; other = y; other_port = n })) _ (named (item_below path 2) b q) refl)

-- ---- the form of the file

abbrev one : List ℕ
one = codes "s1"

abbrev two : List ℕ
two = codes "s2"

abbrev three : List ℕ
three = codes "s3"

abbrev names : List (List ℕ)
names = one ∷ two ∷ three ∷ []

abbrev file : NamedFile
file =
    record {
      switches = names;
      links = record { one = one; one_port = 2; other = two; other_port = 1 } ∷ record { one = two; one_port = 2; other = three; other_port = 1 } ∷ [];
    }

abbrev whole : Object
whole = record { path = []; value = line_data; unknown = None }

all_known : members_of [] (codes "links" ∷ codes "switches" ∷ []) line_data ≡ Ok whole
unfolding members_of
all_known = refl

links_there : list_at whole (codes "links") ≡ Ok (link_data one 2 two 1 ∷ link_data two 2 three 1 ∷ [])
unfolding list_at maybe_at
links_there = refl

links_read : links_of (link_data one 2 two 1 ∷ link_data two 2 three 1 ∷ []) ≡ Ok file.links
links_read = two_of link_at _ _ _ _ (linked 0 one 2 two 1 refl refl) (linked 1 two 2 three 1 refl refl)

switches_there : list_at whole (codes "switches") ≡ Ok (string one ∷ string two ∷ string three ∷ [])
unfolding list_at maybe_at
switches_there = refl

switches_read : switches_of (string one ∷ string two ∷ string three ∷ []) ≡ Ok names
switches_read = three_of switch_at _ _ _ _ _ _ (named (switch_path 0) one refl) (named (switch_path 1) two refl) (named (switch_path 2) three refl)

file_is : file_of line_data ≡ Ok file
unfolding file_of
file_is = rw (all_known, links_there, links_read, switches_there, switches_read) refl

-- ---- what it says

abbrev near : Link
near = record { one = 0; one_port = 2; other = 1; other_port = 1 }

abbrev far : Link
far = record { one = 1; one_port = 2; other = 2; other_port = 1 }

names_differ : different names ≡ Ok names
names_differ = three_turns with_name [] (one ∷ []) (one ∷ two ∷ []) names one two three refl refl refl

links_numbered : all_numbered names file.links ≡ Ok (near ∷ far ∷ [])
links_numbered = two_of (numbered names) _ _ near far refl refl

ports_free : free (near ∷ far ∷ []) ≡ Ok ((0, 2) ∷ (1, 1) ∷ (1, 2) ∷ (2, 1) ∷ [])
ports_free = two_turns with_ports [] ((0, 2) ∷ (1, 1) ∷ []) ((0, 2) ∷ (1, 1) ∷ (1, 2) ∷ (2, 1) ∷ []) near far refl refl

ports_low : in_range (near ∷ far ∷ []) ≡ Ok tt
ports_low = two_turns low tt tt tt near far refl refl

network_is : network_of line_data ≡ Ok wire_network
unfolding network_of
network_is = rw (file_is, names_differ, links_numbered, ports_free, ports_low) refl

pub is_line : (d : Data) (n : Network) → d ≡ line_data → network_of d ≡ Ok n → n ≡ wire_network
is_line d n same is =
    let both : Ok wire_network ≡ Ok n = sym network_is ∙ (ap network_of (sym same) ∙ is) in cc

-- ---- the network

pub is_wiring : IsWiring (wiring_of wire_network)
is_wiring =
    let P : Link → Type 0 = IsLinkOf (wiring_of wire_network) in
    All-cons P near (far ∷ []) (record { one = omega arith; one_port = omega arith; other = omega arith; other_port = omega arith })
    (All-cons P far [] (record { one = omega arith; one_port = omega arith; other = omega arith; other_port = omega arith }) (All-nil P))
