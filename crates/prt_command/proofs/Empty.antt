-- No items are those among which none is.
use Rattle.std.proofs.Common.{◌≡◌, Bool, true, false, Option, Some, None, is_some, refl}
use Rattle.std.specs.Prelude.{not}
use Rattle.std.specs.List.{AllByRecursion as Each}
use Rattle.prt_addr.proofs.Each.{each_fails}
use Rattle.prt_command.specs.Items.{every_slot, has, is_empty, no_items}
use Rattle.prt_command.specs.declared.item.Items.{Items}

is_none : {X : Type 0} (o : Option X) → is_some o ≡ false → o ≡ None
is_none None h = refl
is_none (Some x) h = absurd cc

not_true : (b : Bool) → not b ≡ true → b ≡ false
not_true true h = absurd cc
not_true false h = refl

pub empty_none : (items : Items) → is_empty items ≡ true → items ≡ no_items
empty_none items h =
    let from0 : Each (λ slot. has slot items ≡ false) every_slot = each_fails (λ slot. has slot items) every_slot (not_true _ h) in
    let from1 = from0.1 in
    let from2 = from1.1 in
    let from3 = from2.1 in
    let from4 = from3.1 in
    let from5 = from4.1 in
    let from6 = from5.1 in
    let from7 = from6.1 in
    let from8 = from7.1 in
    let from9 = from8.1 in
    let from10 = from9.1 in
    let from11 = from10.1 in
    let from12 = from11.1 in
    let from13 = from12.1 in
    let from14 = from13.1 in
    let from15 = from14.1 in
    let from16 = from15.1 in
    let from17 = from16.1 in
    let from18 = from17.1 in
    let from19 = from18.1 in
    let from20 = from19.1 in
    let from21 = from20.1 in
    λ i. record {
      destination = is_none items.destination from0.0 i;
      via = is_none items.via from1.0 i;
      dev = is_none items.dev from2.0 i;
      table = is_none items.table from3.0 i;
      proto = is_none items.proto from4.0 i;
      scope = is_none items.scope from5.0 i;
      src = is_none items.src from6.0 i;
      metric = is_none items.metric from7.0 i;
      range = is_none items.range from8.0 i;
      tables = is_none items.tables from9.0 i;
      of_kind = is_none items.of_kind from10.0 i;
      address = is_none items.address from11.0 i;
      source = is_none items.source from12.0 i;
      iif = is_none items.iif from13.0 i;
      mark = is_none items.mark from14.0 i;
      inverted = from15.0 i;
      from = is_none items.from from16.0 i;
      to = is_none items.to from17.0 i;
      fwmark = is_none items.fwmark from18.0 i;
      priority = is_none items.priority from19.0 i;
      action = is_none items.action from20.0 i;
      suppress = is_none items.suppress from21.0 i;
    }
