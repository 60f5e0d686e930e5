use Rattle.std.proofs.Common.{refl, inl, inr, arith}
use Rattle.dewey_labels.proofs.Reading.{refused_other}
use Rattle.dewey_labels.proofs.label_reader.LabelReader.read.Goals as goal

pub returns-in_default-clause-refused : goal.returns-in_default-clause-refused
returns-in_default-clause-refused c = (refl, refused_other c.args.self.now c.args.byte (λ h. elim h [ inl d ↦ omega arith | inr e ↦ omega arith ]))

pub returns-in_default-2-clause-refused : goal.returns-in_default-2-clause-refused
returns-in_default-2-clause-refused c = (refl, refused_other c.args.self.now c.args.byte (λ h. elim h [ inl d ↦ omega arith | inr e ↦ omega arith ]))
