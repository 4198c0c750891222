-- What is known of the packet at a place.
use Rattle.std.proofs.Common.{◌≡◌, ℕ, ◌<◌, ◌≤◌, List, ◌+◌, length, get_or, set, map, true, Option, Some, None, refl, ap, ◌∙◌, subst, arith}
use Rattle.std.specs.Prelude.{slice_get}
use Rattle.std.specs.Option.{option_map}
use Rattle.std.specs.List.{list_all}
use Rattle.std.proofs.lemmas.List.{map-set, set-set, length-map}
use Rattle.std.proofs.lemmas.Option.{slice_get_read, slice_get-map, get_or_from_slice_get}
use Rattle.std.proofs.lemmas.Bool.Decides.{nat_tests}
use Rattle.p4_meaning.specs.Pass.{Queued}
use Rattle.p4_machine.specs.Buffers.{is_some_packet}
use Rattle.p4_machine.specs.declared.pass.Pass.{Ghosts}
use Rattle.network_run.specs.Network.{Place, Flying, Waiting, Over}
use Rattle.network_run.specs.NetworkRun.{Limits, queued_or_over, dropped_if_none}
use Rattle.path_runner.specs.Places.{place_in}
use Rattle.path_runner.specs.declared.place.Flight.{Flight}
use Rattle.path_runner.specs.declared.place.Parked.{Parked}
use Rattle.path_runner.specs.declared.place.Place as declared
use Rattle.path_runner.specs.declared.place.Place.TheVariants as code
use Rattle.path_runner.specs.Sound.{is_within, going_one, going_on, IsNotWaiting}
use Rattle.path_runner.proofs.Lists.{map_same, passes_at}
use Rattle.path_runner.proofs.Going.{going_at, going-set}

module _ {X : Type 0} where
  -- the item that was read
  pub read_item : (xs : List X) (n i : ℕ) (x : X) → n ≡ length xs → i < n → x ≡ get_or xs i x → slice_get xs i ≡ Some x
  read_item xs n i x size h e = slice_get_read xs n i x size h e

  module _ {Y : Type 0} (f : X → Y) where
    -- of a list of views
    pub view_there : (xs : List X) (i : ℕ) (x : X) → slice_get xs i ≡ Some x → slice_get (map f xs) i ≡ Some (f x)
    view_there xs i x e = slice_get-map f xs i ∙ ap (option_map f) e

    pub view_at : (xs : List X) (i : ℕ) (x : X) (d : Y) → slice_get xs i ≡ Some x → get_or (map f xs) i d ≡ f x
    view_at xs i x d e = get_or_from_slice_get (map f xs) i (f x) d (view_there xs i x e)

    pub views_same : {Z : Type 0} (g : Y → Z) (xs : List X) (i : ℕ) (x y : X) → slice_get xs i ≡ Some x → g (f y) ≡ g (f x) → map g (map f (set xs i y)) ≡ map g (map f xs)
    views_same g xs i x y e same = ap (map g) (map-set f xs i y) ∙ map_same g (map f xs) i (f x) (f y) (view_there xs i x e) same

-- a packet that waits, or is in flight with a frame of this length: it is not at its end
pub record IsUnderWay (count : ℕ) (l : Limits) (ps : List (Place Queued)) (switch n bytes : ℕ) : Type 0 where
  pub switch_there : switch < count
  pub passed : n < l.hops
  pub short : bytes ≤ l.link
  pub going : 1 ≤ going_on ps

within_flying : (count : ℕ) (l : Limits) (s port n : ℕ) (frame : List ℕ) → is_within count l (Flying s port frame n) ≡ true → (s < count) × (n < l.hops) × (length frame ≤ l.link)
within_flying count l s port n frame h = (grind (arith, nat_tests), grind (arith, nat_tests), grind (arith, nat_tests))

within_waiting : (count : ℕ) (l : Limits) (s port n : ℕ) (q : Queued) → is_within count l (Waiting s port q n) ≡ true → (s < count) × (n < l.hops)
within_waiting count l s port n q h = (grind (arith, nat_tests), grind (arith, nat_tests))

module _ (count : ℕ) (l : Limits) (ps : List (Place Queued)) (i : ℕ) (there : i < length ps) (all : list_all (is_within count l) ps ≡ true) where
  pub flying_known : (s port n : ℕ) (frame : List ℕ) → get_or ps i Over ≡ Flying s port frame n → IsUnderWay count l ps s n (length frame)
  flying_known s port n frame at =
      let known = within_flying count l s port n frame (subst (λ (p : Place Queued). is_within count l p ≡ true) at (passes_at (is_within count l) ps i Over there all)) in
      record { switch_there = known.0; passed = known.1; short = known.2; going = subst (λ (p : Place Queued). going_one p ≤ going_on ps) at (going_at ps i there) }

  pub waiting_known : (s port n : ℕ) (o : Option Queued) → is_some_packet o ≡ true → get_or ps i Over ≡ queued_or_over s port n o → IsUnderWay count l ps s n 0
  waiting_known s port n None full at = absurd (cc)
  waiting_known s port n (Some q) full at =
      let known = within_waiting count l s port n q (subst (λ (p : Place Queued). is_within count l p ≡ true) at (passes_at (is_within count l) ps i Over there all)) in
      record { switch_there = known.0; passed = known.1; short = omega arith; going = subst (λ (p : Place Queued). going_one p ≤ going_on ps) at (going_at ps i there) }

-- where the entry half puts a packet, it is within the bounds
pub entered_within : (count : ℕ) (l : Limits) (s port n : ℕ) (o : Option Queued) → s < count → n < l.hops → is_within count l (queued_or_over s port n o) ≡ true
entered_within count l s port n None a b = refl
entered_within count l s port n (Some q) a b = grind (arith, nat_tests)

-- it goes on, or is dropped
pub entered_going : (i s port n : ℕ) (o : Option Queued) → going_one (queued_or_over s port n o) + length (dropped_if_none i o) ≡ 1
entered_going i s port n None = refl
entered_going i s port n (Some q) = refl

-- those that go on, and those that ended otherwise, are no more than they were
pub entered_counted :
    (ps : List (Place Queued)) (i sw port n m : ℕ) (frame : List ℕ) (v : Place Queued) (o : Option Queued) (dropped now lost : ℕ) →
    i < length ps → get_or ps i Over ≡ Flying sw port frame n → v ≡ queued_or_over sw port n o →
    now ≡ dropped + length (dropped_if_none i o) → dropped + lost + going_on ps ≤ m → now + lost + going_on (set ps i v) ≤ m
entered_counted ps i sw port n m frame v o dropped now lost there at is more few =
    let moved = going-set ps i v there in
    let before : going_one (get_or ps i Over) ≡ 1 = ap going_one at in
    let after : going_one v ≡ going_one (queued_or_over sw port n o) = ap going_one is in
    let both = entered_going i sw port n o in
    omega (arith, moved, before, after, both, more, few)

module _ {P Q : Type 0} {g : Ghosts P Q} where
  -- a packet that was read in flight
  pub flight_at : (items : List (declared.Place P Q g)) (i : ℕ) (r : declared.Place P Q g) (f : Flight) → i < length (map place_in items) → r ≡ get_or items i r → r ≡ code.Flying f → get_or (map place_in items) i Over ≡ Flying f.switch f.port f.frame.items f.passed
  flight_at items i r f there at is = view_at place_in items i (code.Flying f) Over (read_item items (length items) i r refl (simp length-map at there) at ∙ ap Some is)

  pub flight_known :
      (count : ℕ) (l : Limits) (items : List (declared.Place P Q g)) (i : ℕ) (r : declared.Place P Q g) (f : Flight) → i < length (map place_in items) → r ≡ get_or items i r → r ≡ code.Flying f →
      list_all (is_within count l) (map place_in items) ≡ true → IsUnderWay count l (map place_in items) f.switch f.passed (length f.frame.items)
  flight_known count l items i r f there at is all = flying_known count l (map place_in items) i there all f.switch f.port f.passed f.frame.items (flight_at items i r f there at is)

  -- a packet that was taken from its place is put into it again
  pub put_back : (now before : List (declared.Place P Q g)) (i : ℕ) (x : declared.Place P Q g) → map place_in now ≡ set (map place_in before) i Over → map place_in (set now i x) ≡ set (map place_in before) i (place_in x)
  put_back now before i x taken = map-set place_in now i x ∙ ap (λ (ps : List (Place Queued)). set ps i (place_in x)) taken ∙ set-set (map place_in before) i Over (place_in x)

  -- a packet that does not wait in the program does not wait
  pub not_waiting : (x : declared.Place P Q g) → ((p : Parked P Q g) → x ≡ code.Waiting p → ⊥) → IsNotWaiting (place_in x)
  not_waiting (code.Flying f) other = tt
  not_waiting (code.Waiting p) other = absurd (other p refl)
  not_waiting code.Over other = tt
