-- Document 01: "ACK status by TM1 TM0: 11 success, 10 unspecified error, 01 timeout, 00 try again later." (001, table 2.4)
use Rattle.std.specs.Prelude.{Bool, true, false}
use Rattle.codes.specs.declared.Status.{Status}
use Rattle.codes.specs.declared.Status.TheVariants.{Success, Error, Timeout, Again}
use Rattle.codes.specs.declared.StatusLines.{StatusLines}

-- the status of an ACK with TM1 and TM0
abbrev pub status_of : Bool → Bool → Status
status_of true true = Success
status_of true false = Error
status_of false true = Timeout
status_of false false = Again

-- the lines of an ACK with that status
abbrev pub status_lines_of : Status → StatusLines
status_lines_of Success = record { tm1 = true; tm0 = true }
status_lines_of Error = record { tm1 = true; tm0 = false }
status_lines_of Timeout = record { tm1 = false; tm0 = true }
status_lines_of Again = record { tm1 = false; tm0 = false }
