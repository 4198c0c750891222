use Rattle.std.proofs.Common.{◌≡◌, map, drop}
use Rattle.json_parts.specs.Turns.{in_turn, behind}
use Rattle.case_file.specs.Views.{capture_view, capture_views}
use Rattle.network_course.specs.Places.{place_at, places_of}
use Rattle.network_course.specs.Views.{place_views}
use Rattle.network_course.proofs.places.places_of.Given as goal

abbrev pub invariant-loop-i : goal.invariant-loop-i
invariant-loop-i l = in_turn (behind (place_at l.network)) (place_views l.found.items) l.i (drop l.i (map capture_view l.captures)) ≡ places_of l.network (capture_views l.captures)
