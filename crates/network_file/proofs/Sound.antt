-- What the tests of a network leave: different names, and links between ports that are there.
use Rattle.std.proofs.Common.{◌≡◌, ℕ, ◌+◌, ◌<◌, ◌≤◌, Bool, true, false, cond, ◌||◌, ltb, eqb, List, [], ◌∷◌, length, get_or, Option, Some, None, Ok, Err, refl, sym, ap, subst, ◌∙◌, arith}
use Rattle.std.specs.Prelude.{All, option_map, option_and_then}
use Rattle.std.specs.List.{position_or_len}
use Rattle.std.specs.Option.{option_map_or}
use Rattle.std.specs.Str.{bytes_eq}
use Rattle.std.proofs.lemmas.Bool.{ltb-true, ltb-false, eqb-false}
use Rattle.std.proofs.lemmas.List.Elements.{All-nil, All-cons}
use Rattle.serde_json.specs.Data.{Data}
use Rattle.network_run.specs.Network.{Link, IsLinkOf}
use Rattle.json_parts.specs.Answers.{◌>>=◌}
use Rattle.json_parts.specs.Turns.{in_turn}
use Rattle.json_parts.proofs.TurnLemmas.{all_hold}
use Rattle.network_file.specs.declared.fault.NetworkFault.TheVariants as fault
use Rattle.network_file.specs.Named.{NamedLink, NamedFile, file_of, link_path}
use Rattle.network_file.specs.Network.{Network, Port, number_of, joined, numbered, all_numbered, different, free, is_high, low, last_port, in_range, sized, network_of}
use Rattle.network_file.specs.Wiring.{wiring_of}
use Rattle.network_file.specs.Ends.{ends_of, links_in, IsNetwork}
use Rattle.network_file.proofs.EndLemmas.{neither, links_in_ends}
use Rattle.network_file.proofs.NameSteps.{names_differ}

-- ---- switches

some_within : (b : Bool) (p i n : ℕ) → ltb p n ≡ b → cond b (Some p) None ≡ Some i → i < n
some_within true p i n t e = subst (λ (j : ℕ). j < n) (same p i e) (ltb-true p n t)
  where
    some : ℕ → Option ℕ
    some j = Some j

    same : (p i : ℕ) → some p ≡ some i → p ≡ i
    same p i e = cc
some_within false p i n t e = absurd cc

number_within : (names : List (List ℕ)) (name : List ℕ) (i : ℕ) → number_of names name ≡ Some i → i < length names
number_within names name i e = some_within _ (position_or_len (bytes_eq name) names) i (length names) refl e

-- both ends are at switches
record IsKnown (n : ℕ) (l : Link) : Type 0 where
  pub one : l.one < n
  pub other : l.other < n

abbrev both : NamedLink → Option ℕ → Option ℕ → Option Link
both l one other = option_and_then (λ a. option_map (λ b. record { one = a; one_port = l.one_port; other = b; other_port = l.other_port }) other) one

both_known : (n : ℕ) (l : NamedLink) (w : Link) (f t : Option ℕ) → ((i : ℕ) → f ≡ Some i → i < n) → ((i : ℕ) → t ≡ Some i → i < n) → both l f t ≡ Some w → IsKnown n w
both_known n l w None t p q e = absurd cc
both_known n l w (Some i) None p q e = absurd cc
both_known n l w (Some i) (Some j) p q e =
    let is : record { one = i; one_port = l.one_port; other = j; other_port = l.other_port } ≡ w = cc in
    subst (IsKnown n) is (record { one = p i refl; other = q j refl })

numbered_known : (names : List (List ℕ)) (i : ℕ) (l : NamedLink) (w : Link) → numbered names i l ≡ Ok w → IsKnown (length names) w
numbered_known names i l w e = by (joined names l) refl e
  where
    by : (o : Option Link) → joined names l ≡ o → option_map_or (λ link. Ok link) o (Err (fault.NoSuchSwitch (link_path i))) ≡ Ok w → IsKnown (length names) w
    by None is r = absurd cc
    by (Some v) is r =
        let same : v ≡ w = cc in
        both_known (length names) l w (number_of names l.one) (number_of names l.other) (number_within names l.one) (number_within names l.other) (is ∙ ap (λ (x : Link). Some x) same)

-- ---- ports

low_known : (i : ℕ) (ls : List Link) → in_turn low (tt {0}) i ls ≡ Ok (tt {0}) → All (λ l. is_high l ≡ false) ls
unfolding in_turn
low_known i [] e = All-nil (λ l. is_high l ≡ false)
low_known i (l ∷ ls) e = by (low_known (i + 1) ls) (is_high l) refl e
  where
    by : (in_turn low (tt {0}) (i + 1) ls ≡ Ok (tt {0}) → All (λ l. is_high l ≡ false) ls) → (b : Bool) → is_high l ≡ b
        → (cond b (Err (fault.BadPort (link_path i))) (Ok (tt {0})) >>= λ u. in_turn low u (i + 1) ls) ≡ Ok (tt {0}) → All (λ l. is_high l ≡ false) (l ∷ ls)
    by again true is r = absurd cc
    by again false is r = All-cons (λ l. is_high l ≡ false) l ls is (again r)

-- ---- the number of switches

record HasSize (n : ℕ) : Type 0 where
  pub some : 0 < n
  pub few : n ≤ 256

size_known : (names : List (List ℕ)) → sized names ≡ Ok (tt {0}) → HasSize (length names)
size_known names e = by (eqb (length names) 0) (ltb 256 (length names)) refl refl e
  where
    by : (a b : Bool) → eqb (length names) 0 ≡ a → ltb 256 (length names) ≡ b → cond (a || b) (Err fault.Limit) (Ok (tt {0})) ≡ Ok (tt {0}) → HasSize (length names)
    by true b is other r = absurd cc
    by false true is other r = absurd cc
    by false false is other r =
        let few : length names ≤ 256 = ltb-false 256 (length names) other in
        let some : 0 < length names = omega (arith, eqb-false (length names) 0 is) in
        record { some = some; few = few }

-- ---- the network

low_ends : (l : Link) → is_high l ≡ false → (l.one_port ≤ last_port) × (l.other_port ≤ last_port)
low_ends l e =
    let parts = neither (ltb last_port l.one_port) (ltb last_port l.other_port) e in
    (ltb-false last_port l.one_port parts.0, ltb-false last_port l.other_port parts.1)

link_known : (n : ℕ) (ls all : List Link) (names : List (List ℕ)) → length names ≡ n → All (IsKnown n) ls → All (λ l. is_high l ≡ false) ls → All (IsLinkOf (wiring_of (record { names = names; links = all }))) ls
link_known n ls all names len known small k d lt =
    let is = known k d lt in
    let ports = low_ends (get_or ls k d) (small k d lt) in
    let one_low = ports.0 in
    let other_low = ports.1 in
    record { one = rw len is.one; one_port = omega arith; other = rw len is.other; other_port = omega arith }

pub is_network : (written names : List (List ℕ)) (file : List NamedLink) (ls : List Link) (ends : List (Port × Port)) → different written ≡ Ok names → all_numbered names file ≡ Ok ls → in_range ls ≡ Ok (tt {0}) → sized names ≡ Ok (tt {0}) → ends ≡ ends_of ls → IsNetwork names ends
is_network written names file ls ends n a r z is =
    let size = size_known names z in
    let links : links_in ends ≡ ls = ap links_in is ∙ links_in_ends ls in
    let known : All (IsKnown (length names)) ls = all_hold (numbered names) (IsKnown (length names)) (numbered_known names) [] 0 file ls (All-nil (IsKnown (length names))) a in
    record {
      some = size.some;
      few = size.few;
      different = names_differ [] 0 written names (λ i j d before within. absurd (omega arith)) n;
      paired = is ∙ ap ends_of (sym links);
      wiring = rw links (link_known (length names) ls ls names refl known (low_known 0 ls r));
    }

-- the passes one after the other give the network
pub network_is : (d : Data) (file : NamedFile) (names : List (List ℕ)) (ls : List Link) (ports : List Port) → file_of d ≡ Ok file → different file.switches ≡ Ok names → all_numbered names file.links ≡ Ok ls
    → free ls ≡ Ok ports → in_range ls ≡ Ok (tt {0}) → sized names ≡ Ok (tt {0}) → network_of d ≡ Ok (record { names = names; links = ls })
unfolding network_of
network_is d file names ls ports f n a p r z = rw (f, n, a, p, r, z) refl

-- the network that is kept by both ends of its links
pub kept_is : (names : List (List ℕ)) (ls : List Link) (ends : List (Port × Port)) → ends ≡ ends_of ls → ◌≡◌ {A = Network} (record { names = names; links = ls }) (record { names = names; links = links_in ends })
kept_is names ls ends is = ap (λ (l : List Link). record { names = names; links = l }) (sym (ap links_in is ∙ links_in_ends ls))
