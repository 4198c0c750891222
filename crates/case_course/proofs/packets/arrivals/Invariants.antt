use Rattle.std.proofs.Common.{◌≡◌, ◌++◌, map}
use Rattle.capture_course.specs.Views.{lists_of}
use Rattle.network_course.specs.Views.{place_views}
use Rattle.path_runner.specs.Packets.{arrival_of}
use Rattle.case_course.specs.Packets.{arrivals_of}
use Rattle.case_course.proofs.packets.arrivals.Given as goal

abbrev pub invariant-loop-place : goal.invariant-loop-place
invariant-loop-place l =
    map arrival_of l.packets.items ++ arrivals_of (place_views l.place-iterator.a.rest.items) (lists_of l.place-iterator.b.rest.items)
    ≡ arrivals_of (place_views l.fn.places.items) (lists_of l.fn.captures.items)
