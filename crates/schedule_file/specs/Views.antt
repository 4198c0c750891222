-- Values of the program without where they lie in memory.
use Rattle.std.specs.Prelude.{ℕ, List, map, Option, Some, None, Result}
use Rattle.std.proofs.Common.{Vec, Global, Bor}
use Rattle.indus_tree.specs.Tree.{Decl}
use Rattle.indus_tree.specs.State.{Contents}
use Rattle.indus_tree.specs.declared.tree.Property.{Property}
use Rattle.indus_values.specs.View.{contents_of}
use Rattle.network_run.specs.Events.{Event}
use Rattle.network_file.specs.Events.{event_of}
use Rattle.network_file.specs.Network.{Network}
use Rattle.network_file.specs.declared.event.Event as code
use Rattle.json_parts.specs.Answers.{GivesUnless}
use Rattle.control_file.specs.Views.{decls_of}
use Rattle.schedule_file.specs.Sets as sets
use Rattle.schedule_file.specs.Members as members
use Rattle.schedule_file.specs.declared.set.Setting.{Setting}
use Rattle.schedule_file.specs.declared.member.Around.{Around}
use Rattle.schedule_file.specs.declared.member.Member.{Member}
use Rattle.schedule_file.specs.declared.member.Member.TheVariants as member
use Rattle.schedule_file.specs.declared.fault.ScheduleFault.{ScheduleFault}
use Rattle.schedule_file.specs.declared.fault.ScheduleFault.TheVariants.{NoMemory}

-- an answer is what a definition gives, unless memory was wanting
abbrev pub Gives : {X Y : Type 0} → (X → Y) → Result X ScheduleFault → Result Y ScheduleFault → Type 0
Gives view result defined = GivesUnless NoMemory view result defined

abbrev pub set_view : Setting → sets.Setting
set_view s = record { switch = s.switch; variable = s.variable; contents = contents_of s.contents }

abbrev pub member_view : Member → members.Member
member_view (member.Passage n) = members.passage n
member_view (member.Enter n) = members.enter n
member_view (member.Leave n) = members.leave n
member_view (member.Set s) = members.setting (set_view s)
member_view member.Unread = members.unread

-- the declarations of a property that is lent, where there is one
abbrev pub decls_in : Option (Bor Property) → Option (List Decl)
decls_in None = None
decls_in (Some p) = Some (decls_of p.now)

abbrev pub around_of : (packets : ℕ) → Option (Bor Property) → Network → members.Around
around_of packets p n = record { packets = packets; decls = decls_in p; names = n.names }

abbrev pub around_view : Around → members.Around
around_view a = around_of a.packets a.property a.network.now

abbrev pub event_views : Vec code.Event Global → List (Event Contents)
event_views v = map event_of v.items
