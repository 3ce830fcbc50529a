use Rattle.std.proofs.Common.{length}
use Rattle.http_connection.proofs.conn.Conn.first_job.Goals as goal

pub first_job-requires : goal.first_job-requires
first_job-requires c = (length c.args.self.now.out, c.args.self.now.flying)
