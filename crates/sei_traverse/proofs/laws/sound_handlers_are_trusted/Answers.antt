use Rattle.sei_traverse.proofs.TrustLaws.{sound_is_trusted, is_answered, fit_is_context}
use Rattle.sei_traverse.proofs.laws.sound_handlers_are_trusted.Goals as goal

pub returns-clause-trusted : goal.returns-clause-trusted
returns-clause-trusted g c = λ h e s. sound_is_trusted _ _ _ _ e s

pub returns-clause-fit : goal.returns-clause-fit
returns-clause-fit g c = λ h e s. fit_is_context e (sound_is_trusted _ _ _ _ e s)

pub returns-clause-answered : goal.returns-clause-answered
returns-clause-answered g c = λ h e s. is_answered _ _ _ _ e s
