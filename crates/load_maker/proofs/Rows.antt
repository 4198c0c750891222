-- Worked rows: what the definitions say of the number 1, beside values that a script of its own worked out.
use Rattle.std.proofs.Common.{◌≡◌, [], ◌∷◌, codes, refl}
use Rattle.std.specs.Fmt.{digits}
use Rattle.serde_json.specs.Written.{compact_text}
use Rattle.serde_json.proofs.OnLiterals.{serde_json_on_literals}
use Rattle.load_maker.specs.Numbers.{numbers}
use Rattle.load_maker.specs.Fabric.{host_at, host_route, leaf_route, port_to_spine}
use Rattle.load_maker.specs.Draws.{next_state, draw, packet, state_after}
use Rattle.load_maker.specs.Frames.{frame, ipv4_header}
use Rattle.load_maker.specs.Values.{links, switches, network_data, route_entry}

pub first_draw : draw 1 ≡ 908834774
unfolding next_state
first_draw = refl

-- so host 6 sends packet 0
pub first_source : (packet 0 1).source.number ≡ 6
unfolding next_state
first_source = refl

-- to host 9, with 12 bytes
pub first_frame : frame (packet 0 1)
    ≡ 2 ∷ 0 ∷ 0 ∷ 0 ∷ 0 ∷ 10 ∷ 2 ∷ 0 ∷ 0 ∷ 0 ∷ 0 ∷ 7 ∷ 8 ∷ 0
    ∷ 69 ∷ 0 ∷ 0 ∷ 32 ∷ 0 ∷ 0 ∷ 64 ∷ 0 ∷ 64 ∷ 17 ∷ 0x23 ∷ 0xc9 ∷ 10 ∷ 0 ∷ 1 ∷ 3 ∷ 10 ∷ 0 ∷ 2 ∷ 2
    ∷ 0 ∷ 0 ∷ 0 ∷ 0 ∷ 0 ∷ 0 ∷ 0 ∷ 0 ∷ 0 ∷ 0 ∷ 0 ∷ 0 ∷ []
unfolding next_state frame ipv4_header
first_frame = refl

-- packet 1,983 is the last that host 6 sends: to host 4, with 27 bytes
pub last_destination : (packet 1983 (state_after 1 1983)).destination.number ≡ 4
unfolding next_state state_after
last_destination = refl

pub last_length : (packet 1983 (state_after 1 1983)).length ≡ 27
unfolding next_state state_after
last_length = refl

-- ---- texts

pub network_text : compact_text network_data
    ≡ codes "{\"links\":[[\"l0\",11,\"p0\",1],[\"l0\",12,\"p1\",1],[\"l1\",11,\"p0\",2],[\"l1\",12,\"p1\",2],[\"l2\",11,\"p0\",3],[\"l2\",12,\"p1\",3],[\"l3\",11,\"p0\",4],[\"l3\",12,\"p1\",4]],\"switches\":[\"l0\",\"l1\",\"l2\",\"l3\",\"p0\",\"p1\"]}"
unfolding network_data links switches numbers digits serde_json_on_literals
network_text = refl

-- at leaf 2, to its host 9 and to leaf 1
pub own_entry_text : compact_text (route_entry (host_route (host_at 9)))
    ≡ codes "{\"action\":\"ipv4_forward\",\"args\":[\"02:00:00:00:00:0a\",2],\"key\":[[\"10.0.2.2\",32]]}"
unfolding digits serde_json_on_literals
own_entry_text = refl

pub other_entry_text : compact_text (route_entry (leaf_route 1 (port_to_spine 1)))
    ≡ codes "{\"action\":\"ipv4_forward\",\"args\":[\"02:00:00:00:01:00\",12],\"key\":[[\"10.0.1.0\",24]]}"
unfolding digits serde_json_on_literals
other_entry_text = refl
