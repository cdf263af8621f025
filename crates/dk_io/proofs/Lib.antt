mod Pieces
mod StoredFiles
mod Told
