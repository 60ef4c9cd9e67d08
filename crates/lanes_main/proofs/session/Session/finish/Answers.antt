use Rattle.std.proofs.Common.{◌∙◌, ap, sym, List, ℕ, ◌++◌}
use Rattle.lanes_main.specs.Script.{parts_in, line_text}
use Rattle.lanes_main.proofs.Feeds.{text_end}
use Rattle.lanes_main.proofs.session.Session.finish.Goals as goal

pub returns-clause-ok : goal.returns-clause-ok
returns-clause-ok c =
    c.in_ok-answer_line.ensures.text
    ∙ ap (λ (line : List ℕ). c.args.out.now.items ++ line_text (parts_in c.args.self.now.cluster) line) c.as_slice-line.ensures.same
    ∙ ap (λ (text : List ℕ). c.args.out.now.items ++ text) (sym (text_end (parts_in c.args.self.now.cluster) c.args.self.now.line))
