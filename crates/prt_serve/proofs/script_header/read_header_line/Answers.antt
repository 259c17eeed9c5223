use Rattle.std.proofs.Common.{◌≡◌, ◌≢◌, ◌<◌, ◌^◌, ℕ, List, refl, subst}
use Rattle.prt_serve.proofs.Heads.{IsNoNumber, file_end, file_full, file_newline}
use Rattle.prt_serve.specs.ScriptHeader.{HeadIs}
use Rattle.prt_serve.specs.declared.script_header.HeadEnd.{HeadEnd}
use Rattle.prt_serve.specs.declared.script_header.HeadEnd.TheVariants as ends
use Rattle.prt_serve.proofs.script_header.read_header_line.Goals as goal

-- at the end of the input, if nowhere else
at_end : (end : HeadEnd) → end ≢ ends.Fault → end ≢ ends.Full → end ≢ ends.Newline → end ≡ ends.End
at_end ends.Newline fault full newline = absurd (newline refl)
at_end ends.End fault full newline = refl
at_end ends.Full fault full newline = absurd (full refl)
at_end ends.Fault fault full newline = absurd (fault refl)

pub returns-in-Full : goal.returns-in-Full
returns-in-Full g c = record { opens = file_full c.args.saying (g.R.Read.remaining c.args.reader.now) (g.R.Read.remaining c.read_head-end.new.reader) c.read_head-end.new.head.items c.in-Full.ensures; fault = tt }

pub returns-in-Newline : goal.returns-in-Newline
returns-in-Newline g c = record {
  opens =
      file_newline c.args.saying (g.R.Read.remaining c.args.reader.now) (g.R.Read.remaining c.read_head-end.new.reader) c.read_head-end.new.head.items c.push.new.self.items c.in-Newline.ensures
      (subst (IsNoNumber c.args.saying) c.as_slice.ensures.value c.in_default-number_in.ensures) c.push.ensures.items;
  fault = tt;
}

pub returns-in_default-end-2 : goal.returns-in_default-end-2
returns-in_default-end-2 g c =
    let reader0 = g.R.Read.remaining c.args.reader.now in
    let reader = g.R.Read.remaining c.read_head-end.new.reader in
    let head = c.read_head-end.new.head.items in
    let end : c.read_head-end.result ≡ ends.End = at_end c.read_head-end.result c.in_default.not-Fault c.in_default-end.not-Full c.in_default-end-2.not-Newline in
    record {
      opens = file_end c.args.saying reader0 reader head (subst (λ (e : HeadEnd). HeadIs reader0 reader head e) end c.read_head-end.ensures) (subst (IsNoNumber c.args.saying) c.as_slice.ensures.value c.in_default-number_in.ensures);
      fault = tt;
    }
