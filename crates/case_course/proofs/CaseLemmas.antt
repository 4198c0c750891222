-- A packet of a case may pass a switch at least, and the room of its telemetry is small.
use Rattle.std.proofs.Common.{◌≡◌, ℕ, ◌≤◌, List, [], Bool, true, false, Option, Some, None, Ok, Err, codes, refl, subst, arith, nat_lt, ltb-false}
use Rattle.serde_json.specs.Data.{Data}
use Rattle.json_parts.specs.Object.{Object, members_of, maybe_at, maybe_text_at, text_at, list_at, number_in, number_if, number_at, end_of}
use Rattle.json_parts.specs.Paths.{below}
use Rattle.json_parts.specs.Trees.{as_whole}
use Rattle.json_parts.specs.declared.fault.ShapeFault.TheVariants.{Shape}
use Rattle.case_file.specs.Case.{Case, Front, captures_of, case_names, front_of, property_at, case_from, case_of}
use Rattle.case_course.proofs.Bound.{bound}

-- between the least number and the greatest
record IsIn (least greatest n : ℕ) : Type 0 where
  low : least ≤ n
  high : n ≤ greatest

module _ (o : Object) (name : List ℕ) (least greatest default n : ℕ) (within : IsIn least greatest default) where
  tested : (m : ℕ) (a b : Bool) → nat_lt m least ≡ a → nat_lt greatest m ≡ b → number_in o name least greatest (Some m) ≡ Ok n → IsIn least greatest n
  tested m true b p q h =
      let e : number_in o name least greatest (Some m) ≡ Err (Shape (below o.path name)) = rw p refl in absurd cc
  tested m false true p q h =
      let e : number_in o name least greatest (Some m) ≡ Err (Shape (below o.path name)) = rw (p, q) refl in absurd cc
  tested m false false p q h =
      let e : number_in o name least greatest (Some m) ≡ Ok m = rw (p, q) refl in
      let is : m ≡ n = cc in
      record { low = omega (arith, ltb-false); high = omega (arith, ltb-false) }

  whole : (m : Option ℕ) → number_in o name least greatest m ≡ Ok n → IsIn least greatest n
  whole None h = absurd cc
  whole (Some m) h = tested m (nat_lt m least) (nat_lt greatest m) refl refl h

  given : (d : Option Data) → number_if o name least greatest default d ≡ Ok n → IsIn least greatest n
  given None h = let is : default ≡ n = cc in subst (IsIn least greatest) is within
  given (Some d) h = whole (as_whole d) h

  number_is_in : number_at o name least greatest default ≡ Ok n → IsIn least greatest n
  unfolding number_at
  number_is_in h = let one = bound (maybe_at o name) (λ d. number_if o name least greatest default d) n h in given one.0 one.2

front_hops : (o : Object) (f : Front) → front_of o ≡ Ok f → IsIn 1 255 f.hops
unfolding front_of
front_hops o f h =
    let list = bound (list_at o (codes "captures")) _ f h in
    let captures = bound (captures_of list.0) _ f list.2 in
    let control = bound (maybe_text_at o (codes "control")) _ f captures.2 in
    let entries = bound (maybe_text_at o (codes "entries")) _ f control.2 in
    let hops = bound (number_at o (codes "hops") 1 255 64) _ f entries.2 in
    let made : Front = record { captures = captures.0; control = control.0; entries = entries.0; hops = hops.0 } in
    let same : Ok made ≡ Ok f = hops.2 in
    let is : made ≡ f = cc in
    subst (λ (g : Front). IsIn 1 255 g.hops) is (number_is_in o (codes "hops") 1 255 64 hops.0 (record { low = omega arith; high = omega arith }) hops.1)

-- the case keeps the hops of its front
record Keeps (f : Front) (c : Case) : Type 0 where
  hops : f.hops ≡ c.hops
  room : IsIn 1 256 c.room

kept : (needs : Bool) (o : Object) (f : Front) (c : Case) → case_from needs o f ≡ Ok c → Keeps f c
unfolding case_from
kept needs o f c h =
    let network = bound (text_at o (codes "network")) _ c h in
    let program = bound (text_at o (codes "program")) _ c network.2 in
    let property = bound (property_at needs o) _ c program.2 in
    let room = bound (number_at o (codes "room") 1 256 128) _ c property.2 in
    let schedule = bound (maybe_text_at o (codes "schedule")) _ c room.2 in
    let rest = bound (end_of o) _ c schedule.2 in
    let made : Case = record { captures = f.captures; control = f.control; entries = f.entries; hops = f.hops; network = network.0; program = program.0; property = property.0; room = room.0; schedule = schedule.0 } in
    let same : Ok made ≡ Ok c = rest.2 in
    let is : made ≡ c = cc in
    let number = number_is_in o (codes "room") 1 256 128 room.0 (record { low = omega arith; high = omega arith }) room.1 in
    subst (Keeps f) is (record { hops = refl; room = number })

module _ (needs : Bool) (d : Data) (c : Case) where
  pub hops_are_some : case_of needs d ≡ Ok c → 1 ≤ c.hops
  unfolding case_of
  hops_are_some h =
      let members = bound (members_of [] case_names d) _ c h in
      let front = bound (front_of members.0) _ c members.2 in
      subst (λ (n : ℕ). 1 ≤ n) (kept needs members.0 front.0 c front.2).hops (front_hops members.0 front.0 front.1).low

  pub room_is_small : case_of needs d ≡ Ok c → c.room ≤ 256
  unfolding case_of
  room_is_small h =
      let members = bound (members_of [] case_names d) _ c h in
      let front = bound (front_of members.0) _ c members.2 in
      (kept needs members.0 front.0 c front.2).room.high
