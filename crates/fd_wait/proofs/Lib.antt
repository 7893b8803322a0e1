mod OwnFlags
mod Made
mod Asked
mod Waited
