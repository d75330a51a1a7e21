use Rattle.templates.proofs.memory.Hand.take_control.Goals as goal

pub returns-in-Kern : goal.returns-in-Kern
returns-in-Kern g c = λ wide sized kerns fills on le. rw c.in-Kern.is (c.add_kern.ensures wide sized kerns on)

pub returns-in-Hfil : goal.returns-in-Hfil
returns-in-Hfil g c = λ wide sized kerns fills on le. rw c.in-Hfil.is (c.add_fill.ensures c.args.text.now wide sized fills on le)

pub returns-in-Tabskip : goal.returns-in-Tabskip
returns-in-Tabskip g c = λ wide sized kerns fills on le. rw c.in-Tabskip.is (c.take_gap.ensures wide c.args.into.now on)

pub returns-in-Cr : goal.returns-in-Cr
returns-in-Cr g c = λ wide sized kerns fills on le. rw c.in-Cr.is (c.last_column.ensures c.args.text.now wide on le)
