use Rattle.std.proofs.Common.{rules, List, ◌++◌, map, sym, subst}
use Rattle.network_run.specs.Network.{Sent}
use Rattle.run_captures.specs.Sorted.{AreSorted, port_of}
use Rattle.run_captures.specs.Views.{time_view, lent_view, list_view, front_view}
use Rattle.run_captures.proofs.Short.{lists_short}
use Rattle.run_captures.proofs.Files.{files_of_switch}
use Rattle.run_captures.proofs.captures.put_switch.Goals as goal

pub put_files-requires : goal.put_files-requires
put_files-requires c =
    rw c.deref.ensures.value (lists_short port_of 511 (map lent_view c.args.sent.now) (map list_view c.in_ok-lists.lists.items) c.requires c.in_ok-lists.ensures)

pub returns-in_err-lists : goal.returns-in_err-lists
returns-in_err-lists c = λ switch xs same. search rules

pub returns : goal.returns
returns c = λ switch xs same.
    let lists = map list_view c.in_ok-lists.lists.items in
    let sorted = subst (λ (ys : List Sent). AreSorted port_of 511 ys lists) same c.in_ok-lists.ensures in
    rw (sym (files_of_switch (front_view c.args.front.now) c.args.name.now (map time_view c.args.times.now) xs switch lists sorted), sym c.deref.ensures.value) c.put_files.ensures
