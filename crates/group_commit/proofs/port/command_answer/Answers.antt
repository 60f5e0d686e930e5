use Rattle.worker_run.specs.declared.port.PortFault.TheVariants.{NoMemory}
use Rattle.session_driver.specs.Asking.{doing_of}
use Rattle.group_commit.proofs.Answered.{unasked_line}
use Rattle.group_commit.proofs.port.command_answer.Goals as goal

pub returns-in-Err : goal.returns-in-Err
returns-in-Err g c = unasked_line g.B.NodeRead.contents g.C.TreeCall.meaning c.args.member.now (doing_of g.C.LineCall.made c.args.command.now.what) NoMemory
