-- Where the first pass of a call comes.
pub use Rattle.sei_stmt.specs.Comes.{at_time, again, renoted, renoted_end, Agrees, Comes, EndsAt, EndsAlways}
