use Rattle.outside_kinds.proofs.stop_images.+put_torn.Goals as goal

pub returns-in_ok-put_torn-3-clause-bytes : goal.returns-in_ok-put_torn-3-clause-bytes
returns-in_ok-put_torn-3-clause-bytes t c = λ are. c.in_ok-put_torn-3.ensures.bytes (c.in_ok-put_torn-2.ensures.bytes (c.in_ok-put_torn.ensures.bytes are))
