use Rattle.sei_pass.specs.Setting.{is_intact, sealed_call}
use Rattle.sei_pass.proofs.ParseLaws.{parse_on}
use Rattle.sei_pass.proofs.frame.Frame.parse.Goals as goal

pub returns-then-test : goal.returns-then-test
returns-then-test g c =
    let call = sealed_call ((g.H.Handler.behavior c.args.hands.now).parsed c.args.input.now) c.args.sealed.now.nth in
    parse_on g.K.Core.gives (is_intact c.args.sealed.now c.args.input.now) c.test.result call c.args.lent c.args.index
    c.args.self.now c.test_call.new.self c.fill-bucket.new.into c.test_call.result _ c.test.new.self _
    (rw c.message_code.ensures at c.test.ensures) c.if-test.true c.fill-bucket.ensures.filled
    (c.test_call.ensures call c.fill-bucket.ensures.bucket)
