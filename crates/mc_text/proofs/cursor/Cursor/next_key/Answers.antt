use Rattle.std.proofs.Common.{◌≡◌, ◌+◌, [], sym, ap, ◌∙◌, take, drop, length, arith}
use Rattle.std.proofs.Math.ListN.{length-take, length-drop}
use Rattle.mc_text.specs.Words.{words}
use Rattle.mc_text.specs.Reading.{keys_at, shared_call}
use Rattle.mc_text.proofs.WordLaws.{drop_next}
use Rattle.mc_text.proofs.CallLaws.{no_key_call, length-some_words}
use Rattle.mc_text.proofs.cursor.Cursor.next_key.Goals as goal

pub returns-then-self-request-clause-value : goal.returns-then-self-request-clause-value
returns-then-self-request-clause-value c =
    let r = c.args.request.now in
    let bytes = c.args.bytes.now in
    sym (no_key_call r.buckets (shared_call bytes r) (keys_at bytes r) c.args.self.now.nth (omega (arith, length-some_words (words (take r.line bytes)) r.template.first r.template.count c.requires.of.template.keys)))

-- a key is left
pub returns-in_err-key-clause-value : goal.returns-in_err-key-clause-value
returns-in_err-key-clause-value c =
    let r = c.args.request.now in
    let ws = words (take r.line c.args.bytes.now) in
    let none : drop (r.template.first + c.args.self.now.nth) ws ≡ [] = sym (c.requires.at.keys c.requires.kind) ∙ c.in_err-key.ensures.none in
    absurd (omega (arith, ap length none, length-drop (r.template.first + c.args.self.now.nth) ws, c.requires.of.template.keys, c.if-self-request.false))

pub returns-clause-at : goal.returns-clause-at
returns-clause-at c =
    let r = c.args.request.now in
    let bytes = c.args.bytes.now in
    let ws = words (take r.line bytes) in
    let nth = c.args.self.now.nth in
    let word = c.in_ok-key.ensures.some in
    record {
      line = omega (arith, word.within, length-take r.line bytes);
      keys = λ each. let same : r.template.first + nth + 1 ≡ r.template.first + (nth + 1) = omega arith in
          sym (drop_next ws (r.template.first + nth) _ _ (sym (c.requires.at.keys each) ∙ word.word)) ∙ ap (λ n. drop n ws) same;
    }
