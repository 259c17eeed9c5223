use Rattle.std.proofs.Common.{◌∙◌, Some, rules, sym}
use Rattle.prt_questions.specs.Asking.{IsWholeAnswer, named_answer}
use Rattle.prt_questions.specs.Sources.{sources_of}
use Rattle.prt_questions.proofs.Asked.{asked_or_not, none_there, says_nothing}
use Rattle.prt_questions.proofs.importing.compare.Goals as goal

pub returns-then-is_empty-clause-same : goal.returns-then-is_empty-clause-same
returns-then-is_empty-clause-same g c = λ done.
    let from = sources_of g.H.Files.ReadFiles.opens g.H.Files.Opened.Read.remaining c.args.databases.now.files.now g.H.Net.LocalNet.reaches g.H.Net.Stream.Read.remaining c.args.databases.now.rt (g.H.Input.Read.remaining c.args.input.now) in
    let none = sym c.as_slice.ensures.value ∙ none_there c.as_slice.result.now (sym c.is_empty.ensures ∙ c.if-is_empty.true) in
    says_nothing g.H.Store.Store g.H-Opener-DatabaseOpener from c.args.databases.now.opener c.ask_source-asked.new.databases.opener c.args.source.now (named_answer c.args.inquiry.now) (IsWholeAnswer c.args.inquiry.now.question)
    c.new-lines.result.items c.ask_source-asked.new.output.items c.new-lines.ensures.items none (c.ask_source-asked.ensures.whole (search (rules, c.if-asked-ne-DONE.false)))

pub returns-then-asked-ne-DONE-clause-part : goal.returns-then-asked-ne-DONE-clause-part
returns-then-asked-ne-DONE-clause-part g c =
    let from = sources_of g.H.Files.ReadFiles.opens g.H.Files.Opened.Read.remaining c.args.databases.now.files.now g.H.Net.LocalNet.reaches g.H.Net.Stream.Read.remaining c.args.databases.now.rt (g.H.Input.Read.remaining c.args.input.now) in
    asked_or_not g.H.Store.Store g.H-Opener-DatabaseOpener from c.args.databases.now.opener c.ask_source-asked.new.databases.opener c.args.source.now (named_answer c.args.inquiry.now)
    (Some c.new-lines.result.items) (Some c.ask_source-asked.new.output.items) c.ask_source-asked.ensures.at_most

pub returns-then-is_empty-clause-part : goal.returns-then-is_empty-clause-part
returns-then-is_empty-clause-part g c =
    let from = sources_of g.H.Files.ReadFiles.opens g.H.Files.Opened.Read.remaining c.args.databases.now.files.now g.H.Net.LocalNet.reaches g.H.Net.Stream.Read.remaining c.args.databases.now.rt (g.H.Input.Read.remaining c.args.input.now) in
    asked_or_not g.H.Store.Store g.H-Opener-DatabaseOpener from c.args.databases.now.opener c.ask_source-asked.new.databases.opener c.args.source.now (named_answer c.args.inquiry.now)
    (Some c.new-lines.result.items) (Some c.ask_source-asked.new.output.items) c.ask_source-asked.ensures.at_most

pub returns-clause-part : goal.returns-clause-part
returns-clause-part g c =
    let from = sources_of g.H.Files.ReadFiles.opens g.H.Files.Opened.Read.remaining c.args.databases.now.files.now g.H.Net.LocalNet.reaches g.H.Net.Stream.Read.remaining c.args.databases.now.rt (g.H.Input.Read.remaining c.args.input.now) in
    asked_or_not g.H.Store.Store g.H-Opener-DatabaseOpener from c.args.databases.now.opener c.ask_source-asked.new.databases.opener c.args.source.now (named_answer c.args.inquiry.now)
    (Some c.new-lines.result.items) (Some c.ask_source-asked.new.output.items) c.ask_source-asked.ensures.at_most
