pub mod InRooms
